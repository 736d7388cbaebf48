-- From what was read to what is printed.
--     whole_text_lem     where the output buffer has room for every text, and as many bytes as the input buffer has
--                        decide the text of an input, the whole text of the whole input is printed
--     whole_bytes        the same, where they decide it for bytes
use Rattle.std.specs.Prelude.{ℕ, ◌≤◌, ◌<◌, ◌≡◌, List, length, get_or, take}
use Rattle.std.proofs.Common.{ap, ◌∙◌, subst, arith, length-take, get_or-take}
use Rattle.std.proofs.Math.Decide.{dec_lt}
use Rattle.std.proofs.Math.ListN.{get_or-eq_default}
use Rattle.streams.specs.Streams.{IsPrefixLen}
use Rattle.text.specs.Text.{Appended}
use Rattle.text.proofs.TextLaws.{appended_all}
use Rattle.streams.specs.Streams.{ReadOf}

pub whole_text_lem :
    (text : List ℕ → List ℕ) (buffer : List ℕ) (n : ℕ) {o p : List ℕ} {r : ℕ}
    → Appended o 0 (text (take n buffer)) p r
    → ((f : List ℕ) → length (text f) ≤ length o)
    → ((f : List ℕ) → text (take (length buffer) f) ≡ text f)
    → IsPrefixLen r p
    × ((input : List ℕ) → ReadOf input buffer n → take r p ≡ text input)
whole_text_lem text buffer n x room first = (
  (x.within, x.counted),
  λ input is. appended_all x (room (take n buffer)) ∙ ap text is ∙ first input,
)

-- the same where a text is known of bytes only: what is in the buffer is bytes, and so is that part of the input
pub whole_bytes :
    (text : List ℕ → List ℕ) (buffer : List ℕ) (n : ℕ) {o p : List ℕ} {r : ℕ}
    → Appended o 0 (text (take n buffer)) p r
    → ((f : List ℕ) → length (text f) ≤ length o)
    → ((k : ℕ) → get_or buffer k 0 < 256)
    → ((f : List ℕ)
    → ((k : ℕ) → k < length buffer → get_or f k 0 < 256)
    → text (take (length buffer) f) ≡ text f)
    → IsPrefixLen r p
    × ((input : List ℕ) → ReadOf input buffer n → take r p ≡ text input)
whole_bytes text buffer n x room small first = (
  (x.within, x.counted),
  λ input is. appended_all x (room (take n buffer)) ∙ ap text is ∙ first input (byte input is),
)
  where
    part : (k : ℕ) → get_or (take n buffer) k 0 < 256
    part k = elim (dec_lt k n) [
      | yes h ↦ rw (get_or-take n buffer k 0 h) (small k)
      | no f ↦
          let short = length-take n buffer in
          rw (get_or-eq_default (take n buffer) 0 {n = k} (omega arith)) (omega arith)
    ]

    byte : (input : List ℕ) → ReadOf input buffer n → (k : ℕ) → k < length buffer → get_or input k 0 < 256
    byte input is k h =
        subst (λ (v : ℕ). v < 256)
        (ap (λ (l : List ℕ). get_or l k 0) is ∙ get_or-take (length buffer) input k 0 h)
        (part k)
