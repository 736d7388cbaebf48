-- Laws of writers, of which a function that only writes needs no more than the first two.
--     writes_none, writes_then     nothing is written; one after the other
--     whole_text                   what a new writer has written at last
--     text_after                   what one has written that began behind a text
use Rattle.std.specs.Prelude.{ℕ, ◌≡◌, min, List, [], ◌++◌, length, take}
use Rattle.std.proofs.Common.{refl, ap, ◌∙◌}
use Rattle.text.specs.Text.{Appended, Writes}
use Rattle.text.specs.declared.writer.Writer.{Writer}
use Rattle.text.proofs.TextLaws.{appended_none, appended_then}
use Rattle.text.proofs.Copying.{take_least}

pub writes_none : (w : Writer) → Writes w [] w
writes_none w = record { same = refl; appended = appended_none w.out.now w.at w.inside }

pub writes_then : {u v w : Writer} {s t : List ℕ} → Writes u s v → Writes v t w → Writes u (s ++ t) w
writes_then x y = record { same = y.same ∙ x.same; appended = appended_then x.appended y.appended }

-- o is what the buffer held when the writer was made
pub whole_text :
    {w v : Writer} {o t : List ℕ}
    → (w.out.now ≡ o) × (w.at ≡ 0)
    → Writes w t v
    → Appended o 0 t v.out.now v.at
whole_text {w} {v} {o} {t} e x = rw (e.0, e.1) at x.appended

-- a may be any place of o, one behind its end too
pub text_after :
    {w v : Writer} {o t : List ℕ} {a : ℕ}
    → (w.out.now ≡ o) × (w.at ≡ min a (length o))
    → Writes w t v
    → Appended o a t v.out.now v.at
text_after {w} {v} {o} {t} {a} e x =
    let so_far = rw (e.0, e.1) at x.appended in record {
      size = so_far.size;
      within = so_far.within;
      counted = so_far.counted;
      text = so_far.text ∙ ap (λ (l : List ℕ). take (length o) (l ++ t)) (take_least a o);
    }
