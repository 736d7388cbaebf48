-- Laws of control bytes, and of texts as lists without them.
--     control_space, control_other     a control byte: white space is none, and every other byte is one below 32
--     text_more, text_end              a text, byte by byte
use Rattle.std.specs.Prelude.{ℕ, ◌+◌, ◌≤◌, ◌<◌, ◌≡◌, Bool, true, List, ltb, length, get_or, drop}
use Rattle.std.proofs.Math.Path.{refl}
use Rattle.std.proofs.Common.{sym, add-one, drop_of_length-le, drop-cons}
use Rattle.std.proofs.Math.Bool.{false}
use Rattle.area.proofs.TestLaws.{and_false, and_one}
use Rattle.hexadecimal.specs.Hex.{is_space, is_control, is_text}

-- ---- control bytes; s says whether b is white space
module _ (b : ℕ) (s : Bool) (tells : s ≡ is_space b) where
  pub control_space : s ≡ true → false ≡ is_control b
  unfolding is_control
  control_space e = rw (← tells, e) (sym (and_false (ltb b 32) false refl))

  pub control_other : s ≡ false → ltb b 32 ≡ is_control b
  unfolding is_control
  control_other e = rw (← tells, e) (sym (and_one (ltb b 32)))

-- ---- a text, from the byte at place k on
module _ (l : List ℕ) (k : ℕ) where
  pub text_more : k < length l → is_control (get_or l k 0) ≡ false → is_text (drop k l) ≡ is_text (drop (k + 1) l)
  unfolding is_text
  text_more h e = rw (drop-cons l k 0 h, e, add-one) refl

  pub text_end : length l ≤ k → is_text (drop k l) ≡ true
  unfolding is_text
  text_end h = rw (drop_of_length-le l {i = k} h) refl
