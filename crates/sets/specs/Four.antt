-- The four lowest members of a set (02, No. 9): a line card holds so many next hops.
use Rattle.std.specs.Prelude.{ℕ, ◌&&◌, ltb, leb}
use Rattle.sets.specs.Sets.{bit, set_of}
use Rattle.sets.specs.Counts.{size}

-- The four lowest members of s, or all of them where it has fewer: a member stays where fewer than four are below it.
unfoldable pub four : (w s : ℕ) → ℕ
four w s = set_of w (λ k. bit s k && ltb (size k s) 4)

-- s without its i lowest members: a member stays where at least i are below it. (`rest` of src/lib.rt cites it.)
unfoldable pub beyond : (w i s : ℕ) → ℕ
beyond w i s = set_of w (λ k. bit s k && leb i (size k s))
