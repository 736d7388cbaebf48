-- Text or not, what is written for the bytes that were read is what is written for the input (written_first,
-- error_first), and `out` has room for it (written_room).
use Rattle.std.specs.Prelude.{ℕ, ◌+◌, ◌≤◌, ◌≡◌, Bool, List}
use Rattle.std.proofs.Common.{sym, ap, ◌∙◌, arith, rules, length, take, length-take}
use Rattle.text.specs.Text.{Appended}
use Rattle.text.proofs.WriterLaws.{whole_text}
use Rattle.hexadecimal.specs.Hex.{most}
use Rattle.streams.specs.Streams.{ReadOf}
use Rattle.streams.proofs.StreamLaws.{whole_text_lem}
use Rattle.unhex.specs.Unhex.{written, is_error}
use Rattle.unhex.proofs.UnhexLaws.{text_written, text_error, binary_written, binary_error}
use Rattle.unhex.proofs.UnhexLaws.{written_first, error_first, written_room}
use Rattle.unhex.proofs.whole.Goals as goal

module _ (buffer : List ℕ) (n : ℕ) (size : length buffer ≡ most + 1) where
  -- what was read is no longer than the buffer
  short : length (take n buffer) ≤ most + 1
  short = omega (arith, length-take n buffer)

  whole_output :
      {o w p : List ℕ} {r : ℕ}
      → Appended o 0 w p r
      → written (take n buffer) ≡ w
      → most + 1 ≤ length o
      → (input : List ℕ)
      → ReadOf input buffer n
      → take r p ≡ written input
  whole_output {o} {w} {p} {r} x is fits =
      let done : Appended o 0 (written (take n buffer)) p r = rw is x in
      (whole_text_lem written buffer n done (λ l. omega (arith, written_room l)) (λ l. rw size (written_first l))).1

  whole_error :
      {f : Bool}
      → f ≡ is_error (take n buffer)
      → (input : List ℕ)
      → ReadOf input buffer n
      → f ≡ is_error input
  whole_error e input from = e ∙ ap is_error from ∙ rw size (error_first input)

pub returns-then-is_text-clause-bytes : goal.returns-then-is_text-clause-bytes
returns-then-is_text-clause-bytes c =
    let a = c.args in
    let size : length a.buffer.now ≡ most + 1 = omega arith in
    let is = sym c.is_text.ensures.answer ∙ c.if-is_text.true in
    whole_output a.buffer.now a.count size c.unhex.ensures.written
    (text_written _ (short a.buffer.now a.count size) is)
    (omega arith)

pub returns-then-is_text-clause-error : goal.returns-then-is_text-clause-error
returns-then-is_text-clause-error c =
    let a = c.args in
    let size : length a.buffer.now ≡ most + 1 = omega arith in
    let is = sym c.is_text.ensures.answer ∙ c.if-is_text.true in
    whole_error a.buffer.now a.count size
    (c.unhex.ensures.fault ∙ sym (text_error _ (short a.buffer.now a.count size) is))

pub returns-clause-bytes : goal.returns-clause-bytes
returns-clause-bytes c =
    let a = c.args in
    let size : length a.buffer.now ≡ most + 1 = omega arith in
    let none = sym c.is_text.ensures.answer ∙ c.if-is_text.false in
    let all =
    whole_output a.buffer.now a.count size (whole_text c.new-binary.ensures.empty c.append.ensures.appended)
    (binary_written _ (short a.buffer.now a.count size) none)
    (omega arith) in
    search rules

pub returns-clause-error : goal.returns-clause-error
returns-clause-error c =
    let a = c.args in
    let size : length a.buffer.now ≡ most + 1 = omega arith in
    let none = sym c.is_text.ensures.answer ∙ c.if-is_text.false in
    whole_error a.buffer.now a.count size (sym (binary_error _ (short a.buffer.now a.count size) none))
