-- Laws of digits as code appends them.
--     byte_length                          there are two for each byte
--     hexed_joined                         one list after another
--     hexed_more                           those of one byte more
--     hexed_none, hexed_next, hexed_all    the digits of the first bytes of a list, and of all
use Rattle.std.specs.Prelude.{ℕ, ◌+◌, ◌≤◌, ◌<◌, ◌≡◌, List, [], ◌∷◌, ◌++◌, length, get_or, take}
use Rattle.std.proofs.Math.Path.{refl}
use Rattle.std.proofs.Common.{sym, ap, ◌∙◌, subst, append-nil, append_assoc, add-one, take-suc}
use Rattle.std.proofs.Common.{take_all}
use Rattle.text.specs.Text.{Writes}
use Rattle.text.specs.declared.writer.Writer.{Writer}
use Rattle.text.proofs.WriterLaws.{writes_none, writes_then}
use Rattle.hexadecimal.specs.Digits.{hex_byte, hexed}

-- ---- a byte
pub byte_length : (x : ℕ) → length (hex_byte x) ≡ 2
unfolding hex_byte
byte_length x = refl

-- ---- a list of bytes
pub hexed_joined : (l m : List ℕ) → hexed (l ++ m) ≡ hexed l ++ hexed m
unfolding hexed
hexed_joined [] m = refl
hexed_joined (x ∷ l) m =
    ap (λ (k : List ℕ). hex_byte x ++ k) (hexed_joined l m) ∙ sym (append_assoc (hex_byte x) (hexed l) (hexed m))

hexed_one : (x : ℕ) → hexed (x ∷ []) ≡ hex_byte x
unfolding hexed
hexed_one x = append-nil (hex_byte x)

pub hexed_more :
    (l : List ℕ) (k : ℕ)
    → k < length l
    → hexed (take (k + 1) l) ≡ hexed (take k l) ++ hex_byte (get_or l k 0)
hexed_more l k h =
    ap (λ (i : ℕ). hexed (take i l)) (add-one k)
    ∙ ap hexed (take-suc l k 0 h)
    ∙ hexed_joined (take k l) (get_or l k 0 ∷ [])
    ∙ ap (λ (m : List ℕ). hexed (take k l) ++ m) (hexed_one (get_or l k 0))

-- the digits of no byte, those of one byte more, and those of all
pub hexed_none : (w : Writer) → Writes w (hexed []) w
unfolding hexed
hexed_none w = writes_none w

pub hexed_next :
    (l : List ℕ) (k : ℕ) {u v w : Writer}
    → k < length l
    → Writes u (hexed (take k l)) v
    → Writes v (hex_byte (get_or l k 0)) w
    → Writes u (hexed (take (k + 1) l)) w
hexed_next l k {u} {v} {w} h x y =
    subst (λ (t : List ℕ). Writes u t w) (sym (hexed_more l k h)) (writes_then x y)

pub hexed_all :
    (l : List ℕ) (k : ℕ) {u w : Writer}
    → length l ≤ k
    → Writes u (hexed (take k l)) w
    → Writes u (hexed l) w
hexed_all l k {u} {w} h x = subst (λ (m : List ℕ). Writes u (hexed m) w) (take_all k l h) x

-- a loop over the bytes of a list, as a whole
pub ruleset each_byte = (hexed_none, hexed_next, hexed_all)
