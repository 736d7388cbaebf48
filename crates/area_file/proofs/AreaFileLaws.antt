-- Laws of the text of an area: that it says the bytes of a bench file, and how long it is.
--     sized_true               what makes the sizes of an area
--     text_lines, text_none    its lines; and nothing where there is no area
--     text_room        `room` bytes have room for it
--     text_read        decoded as a text in hexadecimal it is the bench file of the area
-- Each line says the bytes that it was printed for, and its comment says nothing (`Says` of the crate hexadecimal); so
-- the lines say these bytes one after another. A router fits a byte, and the metric of a used link fits three.
use Rattle.std.specs.Prelude.{ℕ, zero, suc, ◌*◌, ◌≤◌, ◌<◌, ◌≡◌, true, false, get_or}
use Rattle.std.proofs.Math.Path.{refl}
use Rattle.std.proofs.Common.{sym, ap, ◌∙◌, subst, ⊎_elim, arith, length-append}
use mathlib.Core.List.{List, [], ◌∷◌, ◌++◌, append_assoc}
use Rattle.std.proofs.Math.ListN.{length}
use Rattle.area.specs.Limits.{width, unused}
use Rattle.area.proofs.TestLaws.{look, both_true, and_true}
use Rattle.area.specs.Sizes.{is_router_count, is_table}
use Rattle.area.proofs.SizeLaws.{router_count_most, table_true}
use Rattle.entries.specs.declared.Entry.{Entry}
use Rattle.text.specs.Text.{word, field, line}
use Rattle.text.proofs.TextLaws.{field_after, line_is, field_below, line_below}
use Rattle.hexadecimal.specs.Hex.{most, unhexed}
use Rattle.hexadecimal.proofs.HexLaws.{length_hexed}
use Rattle.hexadecimal.proofs.PairLaws.{Says, says_none, says_then, bytes_say, says_whole}
use Rattle.hexadecimal.proofs.CommentLaws.{is_one_line, joined_line, field_line, comment, says_words, says_named}
use Rattle.area_file.specs.AreaFile.{links_of, count_bytes, link_bytes, bytes_of, times, file_of}
use Rattle.area_file.specs.AreaFile.{routers_line, count_line, link_line, link_lines, last_lines, all_lines}
use Rattle.area_file.specs.AreaFile.{is_sized, area_text}
use Rattle.area_file.proofs.LinkLaws.{All, all_listed, listed_most}
use Rattle.area_file.specs.AreaFile.{room}

-- ---- lines say bytes
routers_say : (n : ℕ) → n < 256 → Says (routers_line n) (n ∷ [])
unfolding routers_line is_one_line
routers_say n h = says_then (bytes_say (n ∷ []) byte) (says_named 12 (word " routers ") n refl)
  where
    byte : (k : ℕ) → get_or (n ∷ []) k 0 < 256
    byte zero = h
    byte (suc k) = omega arith

count_byte : (count : ℕ) → count < 65536 → (k : ℕ) → get_or (count_bytes count) k 0 < 256
count_byte count h zero = omega arith
count_byte count h (suc zero) = omega arith
count_byte count h (suc (suc k)) = omega arith

count_says : (count : ℕ) → count < 65536 → Says (count_line count) (count_bytes count)
unfolding count_line is_one_line
count_says count h =
    says_then (bytes_say (count_bytes count) (count_byte count h)) (says_named 10 (word " links ") count refl)

-- a link whose numbers fit
abbrev InBytes : (x : Entry) → Type 0
InBytes x = (x.from < width) × (x.to < width) × (x.metric < unused)

link_byte_lem : (x : Entry) → InBytes x → (k : ℕ) → get_or (link_bytes x) k 0 < 256
link_byte_lem x h zero = omega arith
link_byte_lem x h (suc zero) = omega arith
link_byte_lem x h (suc (suc zero)) = omega arith
link_byte_lem x h (suc (suc (suc zero))) = omega arith
link_byte_lem x h (suc (suc (suc (suc zero)))) = omega arith
link_byte_lem x h (suc (suc (suc (suc (suc k))))) = omega arith

-- its comment
link_comment :
    (i j v : ℕ)
    → Says (field (word "    # ") i ++ (field (word " to ") j ++ line (word " at ") v)) []
unfolding is_one_line
link_comment i j v = subst (λ (t : List ℕ). Says t []) (sym parts) (says_words 4 words one)
  where
    a : List ℕ
    a = field (word " ") i

    b : List ℕ
    b = field (word " to ") j

    c : List ℕ
    c = field (word " at ") v

    words : List ℕ
    words = a ++ (b ++ c)

    one : is_one_line words ≡ true
    one =
        joined_line a (b ++ c) (field_line (word " ") i refl)
        (joined_line b c (field_line (word " to ") j refl) (field_line (word " at ") v refl))

    parts : field (word "    # ") i ++ (b ++ line (word " at ") v) ≡ comment 4 (words ++ (10 ∷ []))
    parts =
        ap (λ (w : List ℕ). w ++ (b ++ line (word " at ") v)) (field_after (word "    #") (word " ") i)
        ∙ ap (λ (w : List ℕ). (comment 4 [] ++ a) ++ (b ++ w)) (line_is (word " at ") v)
        ∙ simp append_assoc

link_says : (x : Entry) → InBytes x → Says (link_line x) (link_bytes x)
unfolding link_line
link_says x h =
    says_then (bytes_say (link_bytes x) (link_byte_lem x h)) (link_comment x.from x.to x.metric)

links_say : (l : List Entry) → All InBytes l → Says (link_lines l) (bytes_of l)
unfolding link_lines bytes_of
links_say [] h = says_none
links_say (x ∷ l) h = says_then (link_says x h.0) (links_say l h.1)

last_say : Says last_lines ((0 ∷ []) ++ (times ++ count_bytes 0))
unfolding last_lines is_one_line
last_say =
    says_then (says_then (bytes_say (0 ∷ []) zeros) (says_words 12 (word " changes") refl))
    (says_then (says_then (bytes_say times small) (says_words 6 (word " hold time 0, step time 1") refl))
    (says_then (bytes_say (count_bytes 0) (count_byte 0 (omega arith))) (says_words 10 (word " steps") refl)))
  where
    small : (k : ℕ) → get_or times k 0 < 256
    small zero = omega arith
    small (suc zero) = omega arith
    small (suc (suc zero)) = omega arith
    small (suc (suc (suc zero))) = omega arith
    small (suc (suc (suc (suc k)))) = omega arith

    zeros : (k : ℕ) → get_or (0 ∷ []) k 0 < 256
    zeros zero = omega arith
    zeros (suc k) = omega arith

-- ---- how long the lines are: a router has two digits at most, a metric of a used link eight, and a count four
link_length : (x : Entry) → InBytes x → length (link_line x) ≤ 37
unfolding link_line
link_length x h =
    let digits = length_hexed (link_bytes x) in
    let from = field_below 2 x.from (omega arith) (omega arith) (word "    # ") in
    let to = field_below 2 x.to (omega arith) (omega arith) (word " to ") in
    let metric = line_below 8 x.metric (omega arith) (omega arith) (word " at ") in
    simp length-append (omega arith)

links_length : (l : List Entry) → All InBytes l → length (link_lines l) ≤ 37 * length l
unfolding link_lines
links_length [] h = omega arith
links_length (x ∷ l) h = simp length-append (omega (arith, link_length x h.0, links_length l h.1))

routers_length : (n : ℕ) → n ≤ width → length (routers_line n) ≤ 27
unfolding routers_line
routers_length n h =
    let line = line_below 2 n (omega arith) (omega arith) (word "            # routers ") in
    simp length-append (omega (arith, length_hexed (n ∷ [])))

count_length : (count : ℕ) → count ≤ width * width → length (count_line count) ≤ 27
unfolding count_line
count_length count h =
    let line = line_below 4 count (omega arith) (omega arith) (word "          # links ") in
    simp length-append (omega (arith, length_hexed (count_bytes count)))

last_length : length last_lines ≤ 96
unfolding last_lines
last_length =
    simp length-append (omega (arith, length_hexed (0 ∷ []), length_hexed times, length_hexed (count_bytes 0)))

fits : (n : ℕ) (m : List ℕ) → n ≤ width → All InBytes (links_of n m)
fits n m h = all_listed n m InBytes (width * n) (λ d b x. (omega arith, omega arith, x.used))

lines_length : (n : ℕ) (m : List ℕ) → n ≤ width → length (all_lines n m) ≤ room
unfolding all_lines
lines_length n m h =
    let few = listed_most n m (width * n) in
    let links = links_length (links_of n m) (fits n m h) in
    let head = routers_length n h in
    let count = count_length (length (links_of n m)) (omega arith) in
    simp length-append (omega (arith, last_length))

-- ---- the text
module _ (n : ℕ) (m : List ℕ) where
  pub text_lines : is_sized n m ≡ true → area_text n m ≡ all_lines n m
  unfolding area_text
  text_lines t = rw t refl

  pub text_none : is_sized n m ≡ false → area_text n m ≡ []
  unfolding area_text
  text_none f = rw f refl

  pub sized_true : is_router_count n ≡ true → length m ≡ width * width → is_sized n m ≡ true
  unfolding is_sized
  sized_true a b = and_true (is_router_count n) (is_table m) a (table_true m b)

  area_most : is_sized n m ≡ true → n ≤ width
  unfolding is_sized
  area_most t = router_count_most n (both_true (is_router_count n) (is_table m) t).0

  pub text_room : length (area_text n m) ≤ room
  text_room =
      ⊎_elim
      (λ t. rw (text_lines t) (lines_length n m (area_most t)))
      (λ f. rw (text_none f) (omega arith))
      (look (is_sized n m))

  pub text_read : is_sized n m ≡ true → unhexed (area_text n m) ≡ file_of n m
  unfolding all_lines file_of
  text_read t =
      let few = area_most t in
      let short : length (area_text n m) ≤ most = omega (arith, text_room) in
      let many = listed_most n m (width * n) in
      let says = says_then (routers_say n (omega arith))
      (says_then (count_says (length (links_of n m)) (omega arith))
      (says_then (links_say (links_of n m) (fits n m few)) last_say)) in
      says_whole (subst (λ (w : List ℕ). Says w (file_of n m)) (sym (text_lines t)) says) short
