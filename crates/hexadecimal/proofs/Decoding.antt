-- A text that is decoded up to a place.
--     Decoded t u w at s       the writer was u and is w; it wrote what comes of the first `at` bytes of the text t, of
--                              which the last was read as s
--     decoded_long, decoded_none       the text is too long, or nothing of it is read yet
--     decoded_byte, decoded_quiet      the next byte of the text ends a byte, or it neither does nor is a fault
--     decoded_bad, decoded_odd         it is the first fault, which is the line that is written
--     decoded_all, decoded_lone        the text ends, and after a first digit that is a fault too
use Rattle.std.specs.Prelude.{ℕ, ◌+◌, ◌-◌, ◌≤◌, ◌<◌, ◌≡◌, refl, true, false, List, [], ◌∷◌, ◌++◌, length, get_or}
use Rattle.std.specs.Prelude.{drop}
use Rattle.std.proofs.Common.{sym, ap, ◌∙◌, arith, add-one, drop_of_length-le, drop-cons}
use Rattle.text.specs.Text.{Writes}
use Rattle.text.specs.declared.writer.Writer.{Writer}
use Rattle.text.proofs.WriterLaws.{writes_none, writes_then}
use Rattle.hexadecimal.specs.declared.Fault.TheVariants as fault
use Rattle.hexadecimal.specs.declared.Reading.{Reading}
use Rattle.hexadecimal.specs.declared.Reading.TheVariants.{Between, Comment, High, Byte, Bad, Odd}
use Rattle.hexadecimal.specs.Hex.{most, digit, is_space, first, second, next, byte_of}
use Rattle.hexadecimal.specs.Hex.{unless_fault, decode, decoded, unhexed, is_fault, has_fault, is_faulty}
use Rattle.hexadecimal.specs.Reading.{high_half, fault_line}
use Rattle.hexadecimal.proofs.ReadingLaws.{first_not_odd, high_small}
use Rattle.hexadecimal.proofs.HexLaws.{unhexed_long, unhexed_decoded}
use Rattle.hexadecimal.proofs.FaultLaws.{faulty_long, faulty_decoded, fault_now, fault_later, fault_end}
use Rattle.hexadecimal.proofs.FaultLaws.{unless_sound}

pub record Decoded (t : List ℕ) (u w : Writer) (at : ℕ) (s : Reading) : Type 0 where
  pub done : List ℕ
  pub rest : unhexed t ≡ decode done at s (drop at t)
  pub written : Writes u done w
  pub small : high_half s < 16
  pub fine : is_fault s ≡ false
  pub faults : is_faulty t ≡ has_fault s (drop at t)
  pub started : (b : ℕ) → next s b ≡ Odd → 1 ≤ at

pub decoded_none : (t : List ℕ) (w : Writer) → length t ≤ most → Decoded t w w 0 Between
unfolding decoded high_half is_fault next
decoded_none t w h = record {
  done = [];
  rest = unhexed_decoded t h;
  written = writes_none w;
  small = omega arith;
  fine = refl;
  faults = faulty_decoded t h;
  started = λ b e. absurd (first_not_odd b e);
}

-- a text that is not decoded
pub decoded_long : (t : List ℕ) → most < length t → (unhexed t ≡ fault_line fault.TooLong) × (true ≡ is_faulty t)
unfolding fault_line
decoded_long t h = (unhexed_long t h, sym (faulty_long t h))

-- ---- a reading that ends a byte, and one that is neither that nor a fault
fine_byte : (r : Reading) (x : ℕ) → r ≡ Byte x → is_fault r ≡ false
unfolding is_fault
fine_byte r x e = rw e refl

-- the others, of which none ends a byte or is a fault
pub record Quiet (r : Reading) : Type 0 where
  pub not_byte : (x : ℕ) → r ≡ Byte x → ⊥
  pub not_bad : r ≡ Bad → ⊥
  pub not_odd : r ≡ Odd → ⊥

fine_quiet : (r : Reading) → Quiet r → is_fault r ≡ false
unfolding is_fault
fine_quiet Between h = refl
fine_quiet Comment h = refl
fine_quiet (High x) h = refl
fine_quiet (Byte x) h = refl
fine_quiet Bad h = absurd (h.not_bad refl)
fine_quiet Odd h = absurd (h.not_odd refl)

no_byte : (r : Reading) → Quiet r → byte_of r ≡ []
unfolding byte_of
no_byte Between h = refl
no_byte Comment h = refl
no_byte (High x) h = refl
no_byte (Byte x) h = absurd (h.not_byte x refl)
no_byte Bad h = refl
no_byte Odd h = refl

-- ---- the byte at place `at` is read as r
module _
    {t : List ℕ} {u w : Writer} {at : ℕ} {s : Reading} (so_far : Decoded t u w at s)
    (more : at < length t) (r : Reading) (is : r ≡ next s (get_or t at 0))
  where
    byte_read : unhexed t ≡ unless_fault at r (decode (so_far.done ++ byte_of r) (at + 1) r (drop (at + 1) t))
    unfolding decode
    byte_read = so_far.rest ∙ rw (drop-cons t at 0 more, add-one, is) refl

    faults_read : is_faulty t ≡ has_fault s (get_or t at 0 ∷ drop (at + 1) t)
    faults_read = so_far.faults ∙ rw (drop-cons t at 0 more, add-one) refl

    decoded_more : {v : Writer} → is_fault r ≡ false → Writes w (byte_of r) v → Decoded t u v (at + 1) r
    decoded_more fine kept = record {
      done = so_far.done ++ byte_of r;
      rest = byte_read ∙ unless_sound at r (decode (so_far.done ++ byte_of r) (at + 1) r (drop (at + 1) t)) fine;
      written = writes_then so_far.written kept;
      small = rw is (high_small s (get_or t at 0));
      fine = fine;
      faults =
          faults_read
          ∙ fault_later s (get_or t at 0) (drop (at + 1) t) (rw is at fine)
          ∙ ap (λ (x : Reading). has_fault x (drop (at + 1) t)) (sym is);
      started = λ b e. omega arith;
    }

    pub decoded_byte : {v : Writer} (x : ℕ) → r ≡ Byte x → Writes w (x ∷ []) v → Decoded t u v (at + 1) (Byte x)
    unfolding byte_of
    decoded_byte {v} x e kept =
        let so : Decoded t u v (at + 1) r = decoded_more (fine_byte r x e) (rw e kept) in
        rw e at so

    pub decoded_quiet : Quiet r → Decoded t u w (at + 1) r
    decoded_quiet h = decoded_more (fine_quiet r h) (rw (no_byte r h) (writes_none w))

    -- the first fault
    faulty : is_fault r ≡ true → true ≡ is_faulty t
    faulty e = sym (faults_read ∙ fault_now s (get_or t at 0) (drop (at + 1) t) (rw is at e))

    pub decoded_bad : r ≡ Bad → (unhexed t ≡ fault_line (fault.Bad at)) × (true ≡ is_faulty t)
    unfolding unless_fault is_fault fault_line
    decoded_bad e = (rw (byte_read, e) refl, faulty (rw e refl))

    pub decoded_odd : r ≡ Odd → (unhexed t ≡ fault_line (fault.Odd (at - 1))) × (true ≡ is_faulty t)
    unfolding unless_fault is_fault fault_line
    decoded_odd e = (rw (byte_read, e) refl, faulty (rw e refl))

-- ---- the end of the text, after s
-- all readings but `High`
abbrev Ended : (s : Reading) → Type 0
Ended s = (h : ℕ) → s ≡ High h → ⊥

end_fine : (s : Reading) → is_fault s ≡ false → Ended s → is_fault (next s 10) ≡ false
unfolding is_fault next first digit is_space
end_fine Between f h = refl
end_fine Comment f h = refl
end_fine (High x) f h = absurd (h x refl)
end_fine (Byte x) f h = refl
end_fine Bad f h = f
end_fine Odd f h = f

module _ {t : List ℕ} {u w : Writer} {at : ℕ} {s : Reading} (so_far : Decoded t u w at s) (ends : at ≡ length t) where
  at_end : unhexed t ≡ unless_fault at (next s 10) so_far.done
  unfolding decode
  at_end = so_far.rest ∙ rw (drop_of_length-le t {i = at} (omega arith)) refl

  faults_end : is_faulty t ≡ is_fault (next s 10)
  faults_end = so_far.faults ∙ rw (drop_of_length-le t {i = at} (omega arith)) (fault_end s)

  pub decoded_all : Ended s → Writes u (unhexed t) w × (false ≡ is_faulty t)
  decoded_all h =
      let fine = end_fine s so_far.fine h in
      (rw (at_end, unless_sound at (next s 10) so_far.done fine) so_far.written, sym (faults_end ∙ fine))

  module _ (h : ℕ) (e : s ≡ High h) where
    lone : next s 10 ≡ Odd
    unfolding next second digit is_space
    lone = rw e refl

    pub some_text : 1 ≤ length t
    some_text = omega (arith, so_far.started 10 lone)

    pub decoded_lone : (unhexed t ≡ fault_line (fault.Odd (length t - 1))) × (true ≡ is_faulty t)
    unfolding unless_fault is_fault fault_line
    decoded_lone = (rw (at_end, lone, ends) refl, sym (faults_end ∙ rw lone refl))
