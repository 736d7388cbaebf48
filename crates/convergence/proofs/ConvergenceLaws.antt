-- Ordered convergence is safe (01, "The steps", what demand 3 says of walks). Two topologies differ at links of one
-- router, the root, and routers write their new sets in order. Then, whichever routers have written, the pointers are
-- `Safe`: `rise` for a rise, `fall` for a fall. Each says which routers are barred (Separation.antt), and the rest is
-- NoLoop.antt and Arrival.antt.
use Rattle.std.specs.Prelude.{ℕ, ◌<◌, ◌≡◌, refl, Bool, true, false, ◌≢◌, ◌⊎◌}
use Rattle.std.proofs.Common.{◌∙◌, inl, inr, ⊎_elim}
use Rattle.std.proofs.Math.Decide.{ℕ_discrete}
use Rattle.area.proofs.TestLaws.{look}
use Rattle.topology.specs.Topology.{Topology}
use Rattle.topology.specs.NextHops.{Next}
use Rattle.convergence.specs.Pointers.{Pointers, pointers}
use Rattle.convergence.specs.Change.{Change, Sets, Ordered, WaitsRise, WaitsFall}
use Rattle.convergence.proofs.Separation.{Moment}
use Rattle.convergence.proofs.NoLoop.{no_router_twice}
use Rattle.convergence.proofs.Arrival.{arrival}
use Rattle.convergence.specs.Convergence.{Safe}

safe :
    {n c d : ℕ} {lo hi : Topology} {at-lo at-hi p : Pointers}
    → d < n
    → Moment n c d lo hi at-lo at-hi p
    → Safe n d lo hi p
safe h s = record { no_router_twice = no_router_twice s; arrives = λ x l a b w. arrival s h x l b w }

-- ---- where pointers are old, and where new
module _ (old new : Pointers) (wrote : ℕ → Bool) where
  points_old : (r : ℕ) → wrote r ≡ false → pointers old new wrote r ≡ old r
  points_old r e = rw e refl

  points_new : (r : ℕ) → wrote r ≡ true → pointers old new wrote r ≡ new r
  points_new r e = rw e refl

  old_or_new : (r : ℕ) → (pointers old new wrote r ≡ old r) ⊎ (pointers old new wrote r ≡ new r)
  old_or_new r = ⊎_elim (λ e. inr (points_new r e)) (λ e. inl (points_old r e)) (look (wrote r))

  has_written_lem : (r : ℕ) → pointers old new wrote r ≢ old r → wrote r ≡ true
  has_written_lem r f = ⊎_elim (λ e. e) (λ e. absurd (f (points_old r e))) (look (wrote r))

  -- a router that is done points to its new set
  done_new :
      {waits : (r w : ℕ) → Type 0} {done : ℕ → Bool}
      → Ordered waits old new wrote done
      → (r : ℕ)
      → done r ≡ true
      → pointers old new wrote r ≡ new r
  done_new o r t = elim (ℕ_discrete (old r) (new r)) [
    | yes e ↦ ⊎_elim (λ q. q ∙ e) (λ q. q) (old_or_new r)
    | no f ↦ points_new r (o.done_wrote r t f)
  ]

module _
    {n c d : ℕ} {lo hi : Topology} {at-lo at-hi : Pointers} {wrote done : ℕ → Bool}
    (g : Change n c lo hi)
    (d-in : d < n)
    (s : Sets n d lo hi at-lo at-hi)
  where
    -- Rise, from lo to hi: a router waits for those that have it as a next hop to the root. Barred are the routers that
    -- are done.
    pub rise : Ordered (WaitsRise n c lo) at-lo at-hi wrote done → Safe n d lo hi (pointers at-lo at-hi wrote)
    rise o =
        safe d-in
        (record {
          change = g;
          sets = s;
          either = old_or_new at-lo at-hi wrote;
          barred = λ x. done x ≡ true;
          barred_first = λ x k h f. o.wrote_after k x (has_written_lem at-lo at-hi wrote k f) h;
          barred_on = λ x k h b. o.done_after k x b h;
          barred_hi = done_new at-lo at-hi wrote o;
        })

    -- Fall, from hi to lo: a router waits for its own next hops to the root. Barred are the routers that are not done
    -- and have not written.
    pub fall : Ordered (WaitsFall n c lo) at-hi at-lo wrote done → Safe n d lo hi (pointers at-hi at-lo wrote)
    fall o =
        safe d-in
        (record {
          change = g;
          sets = s;
          either = λ r. ⊎_elim inr inl (old_or_new at-hi at-lo wrote r);
          barred = λ x. (done x ≢ true) × (wrote x ≡ false);
          barred_first = λ x k h f. behind x k h (λ t. f (done_new at-hi at-lo wrote o k t));
          barred_on = λ x k h b. behind x k h b.0;
          barred_hi = λ x b. points_old at-hi at-lo wrote x b.1;
        })
      where
        -- a router that waits for one that is not done
        behind : (x k : ℕ) → Next n lo x c k → done k ≢ true → (done x ≢ true) × (wrote x ≡ false)
        behind x k h f = (
          (λ t. f (o.done_after x k t h)),
          ⊎_elim (λ t. absurd (f (o.wrote_after x k t h))) (λ e. e) (look (wrote x)),
        )
