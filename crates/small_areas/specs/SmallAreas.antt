-- The small areas of 01, "Small areas, checked by hand": one list of inputs and results. That the
-- definitions agree with every row of it is proofs/Agreed.antt.
--     C1 .. C13        the rows of 01's table, each drawn above it
--     sheets           after them, running sheets (02, No. 1)
--     orders           lists of changes in several orders (02, No. 2)
--     half_links        links that are up at one end only (02, No. 4)
--     dead_links        files that list dead links (02, No. 5)
--     isis_areas        lists of IS-IS entries (02, No. 6), and
--     isis_faults       those that are refused
--     largest          the largest areas, and those that are too large (02, No. 7)
--     counted          how many calls a change needs, and how many are missing (02, No. 8)
--     five_next_hops     more next hops than a set of four holds (02, No. 9)
--     timers           clock, hold-down and due times; files with times and without (02, No. 10)
--     rehearsed        and all that the rehearsal replies and prints
use Rattle.std.specs.Prelude.{ℕ, zero, suc, ◌/◌, ◌%◌, ◌≡◌, refl, List, [], ◌∷◌, ◌++◌, map, length, take, replicate}
use Rattle.machine.specs.Answers.{ok, ignored, refused}
use Rattle.text.specs.Text.{word}
use Rattle.small_areas.specs.Questions.{Question, refusal, root, ranks, waits, due, distance, set, four}
use Rattle.small_areas.specs.Questions.{old_set, new_set, old_four, new_four, distance_by, set_by, sheet, step}
use Rattle.small_areas.specs.Questions.{times, times_after, due_time}
use Rattle.small_areas.specs.Questions.{all_steps, needs, missing, printed, old_refusal, rewrites, isis}
use Rattle.small_areas.specs.Questions.{isis_metric, Value, answer}

-- ---- bench files as bytes (01, "The bench file"; 02, No. 10)
-- a number in two bytes
abbrev two : (k : ℕ) → List ℕ
two k = k / 256 ∷ k % 256 ∷ []

-- the link from i to j at the metric m; among the changes, the link whose metric becomes m
abbrev link : (i j m : ℕ) → List ℕ
link i j m = i ∷ j ∷ m / 65_536 ∷ m / 256 % 256 ∷ m % 256 ∷ []

-- the same in both directions
abbrev both : (i j m : ℕ) → List ℕ
both i j m = link i j m ++ link j i m

-- the metric of a link that is not used, written out so that a wrong one in the definitions shows
abbrev down : ℕ
down = 16_777_215

-- the steps of router a: `write` has the destination b, and `deliver` is of its message to router b
abbrev learn : (a : ℕ) → List ℕ
learn a = 1 ∷ a ∷ 0 ∷ []

abbrev release : (a : ℕ) → List ℕ
release a = 2 ∷ a ∷ 0 ∷ []

abbrev write : (a b : ℕ) → List ℕ
write a b = 3 ∷ a ∷ b ∷ []

abbrev finish : (a : ℕ) → List ℕ
finish a = 4 ∷ a ∷ 0 ∷ []

abbrev deliver : (a b : ℕ) → List ℕ
deliver a b = 5 ∷ a ∷ b ∷ []

-- a tick reads neither a nor b
abbrev tick : (a b : ℕ) → List ℕ
tick a b = 6 ∷ a ∷ b ∷ []

-- the file of n routers, with the count before each section, and with these bytes between the changes and the steps
abbrev sections : (n : ℕ) (links changes between steps : List ℕ) → List ℕ
sections n links changes between steps =
    n ∷ two (length links / 5) ++ links ++ (length changes / 5 ∷ changes) ++ between
    ++ two (length steps / 3) ++ steps

-- the file with a hold time and a step time; with hold time 0 and step time 1; and a stored file, which has none
abbrev timed : (hold pace n : ℕ) (links changes steps : List ℕ) → List ℕ
timed hold pace n links changes steps = sections n links changes (two hold ++ two pace) steps

abbrev bench : (n : ℕ) (links changes steps : List ℕ) → List ℕ
bench n links changes steps = timed 0 1 n links changes steps

abbrev stored : (n : ℕ) (links changes steps : List ℕ) → List ℕ
stored n links changes steps = sections n links changes [] steps

-- C1's links, where 0–2 is at m: 3 in C1 itself
--
--           1
--       1 /   \ 1
--        0 --- 2
--           m
abbrev triangle : (m : ℕ) → List ℕ
triangle m = both 0 1 1 ++ both 1 2 1 ++ both 0 2 m

-- the file of 01, "The rehearsal", byte for byte, with the times of 02, No. 10
abbrev rehearsal : List ℕ
rehearsal =
    0x03
    ∷ 0x00 ∷ 0x06
    ∷ 0x00 ∷ 0x01 ∷ 0x00 ∷ 0x00 ∷ 0x01
    ∷ 0x01 ∷ 0x00 ∷ 0x00 ∷ 0x00 ∷ 0x01
    ∷ 0x01 ∷ 0x02 ∷ 0x00 ∷ 0x00 ∷ 0x01
    ∷ 0x02 ∷ 0x01 ∷ 0x00 ∷ 0x00 ∷ 0x01
    ∷ 0x00 ∷ 0x02 ∷ 0x00 ∷ 0x00 ∷ 0x03
    ∷ 0x02 ∷ 0x00 ∷ 0x00 ∷ 0x00 ∷ 0x03
    ∷ 0x02
    ∷ 0x01 ∷ 0x02 ∷ 0xFF ∷ 0xFF ∷ 0xFF
    ∷ 0x02 ∷ 0x01 ∷ 0xFF ∷ 0xFF ∷ 0xFF
    ∷ 0x00 ∷ 0x00 ∷ 0x00 ∷ 0x01
    ∷ 0x00 ∷ 0x0A
    ∷ 0x01 ∷ 0x01 ∷ 0x00
    ∷ 0x02 ∷ 0x01 ∷ 0x00
    ∷ 0x03 ∷ 0x01 ∷ 0x02
    ∷ 0x01 ∷ 0x00 ∷ 0x00
    ∷ 0x02 ∷ 0x00 ∷ 0x00
    ∷ 0x03 ∷ 0x00 ∷ 0x02
    ∷ 0x04 ∷ 0x00 ∷ 0x00
    ∷ 0x05 ∷ 0x00 ∷ 0x01
    ∷ 0x05 ∷ 0x00 ∷ 0x01
    ∷ 0x03 ∷ 0x01 ∷ 0x02
    ∷ []

-- the same bytes from `bench`: of C1's links 1–2 goes down, and ten steps follow
unfoldable pub ten_steps : List ℕ
ten_steps =
    learn 1 ++ release 1 ++ write 1 2
    ++ learn 0 ++ release 0 ++ write 0 2 ++ finish 0
    ++ deliver 0 1 ++ deliver 0 1 ++ write 1 2

rehearsal_is : rehearsal ≡ bench 3 (triangle 3) (both 1 2 down) ten_steps
unfolding ten_steps
rehearsal_is = refl

-- ---- the list
-- a question and its answer
pub record Result : Type 0 where
  pub asked : Question
  pub value : Value asked

infix 70 ◌is◌
abbrev ◌is◌ : (q : Question) → Value q → Result
q is v = record { asked = q; value = v }

-- a row: a file, and the results on it
pub record Case : Type 0 where
  pub file : List ℕ
  pub results : List Result

abbrev case : (f : List ℕ) (rs : List Result) → Case
case f rs = record { file = f; results = rs }

-- ---- the areas
-- A link is drawn with its metric; without an arrow it goes both ways. Left the links before the change, right those
-- after it.

-- C1: the plan of the rehearsal. Link 1–2 goes down.
--
--           1                  1
--       1 /   \ 1          1 /
--        0 --- 2            0 --- 2
--           3                  3
abbrev C1 : Case
C1 =
    case rehearsal
    (root is 1 ∷ ranks is (0 ∷ 1 ∷ 0 ∷ []) ∷ waits is (0 ∷ 5 ∷ 0 ∷ []) ∷ [])

-- C2: link 1–2 comes up.
--
--           1                  1
--       1 /                1 /   \ 1
--        0 --- 2            0 --- 2
--           3                  3
abbrev C2 : Case
C2 =
    case (bench 3 (both 0 1 1 ++ both 0 2 3) (both 1 2 1) [])
    (root is 1 ∷ ranks is (1 ∷ 0 ∷ 1 ∷ []) ∷ waits is (2 ∷ 0 ∷ 2 ∷ []) ∷ [])

-- C3: C1 where two ways from 0 to 2 cost the same: sets {1, 2} and then {2}.
--
--           1                  1
--       1 /   \ 1          1 /
--        0 --- 2            0 --- 2
--           2                  2
abbrev C3 : Case
C3 =
    case (bench 3 (triangle 2) (both 1 2 down) [])
    (old_set 0 2 is 6 ∷ new_set 0 2 is 4 ∷ [])

-- C4: C1 with its changes in the other order, 2→1 before 1→2, and the same plan (02, No. 2).
abbrev C4 : Case
C4 =
    case (bench 3 (triangle 3) (both 2 1 down) [])
    (root is 1 ∷ ranks is (0 ∷ 1 ∷ 0 ∷ []) ∷ waits is (0 ∷ 5 ∷ 0 ∷ []) ∷ [])

-- C5: a link that is not used. It is asked of the metric table alone, each of whose 4,096 cells is 16,777,215: no file
-- may list such a link (02, No. 5).
--
--        0 --16,777,215-> 1
abbrev C5 : Case
C5 =
    case []
    (distance_by 2 (replicate 4_096 down) 0 1 is 4_294_967_295 ∷ set_by 2 (replicate 4_096 down) 0 1 is 0 ∷ [])

-- C6: the largest metric of a used link.
--
--        0 --16,777,214-> 1
--        0 <-1----------- 1
abbrev C6 : Case
C6 =
    case (bench 2 (link 0 1 16_777_214 ++ link 1 0 1) [] [])
    (distance 0 1 is 16_777_214 ∷ set 0 1 is 2 ∷ [])

-- C7: a change to the metric that is there; with no link back it is not usable, and differs in nothing.
--
--        0 --2-> 1          0 --2-> 1
abbrev C7 : Case
C7 = case (bench 2 (link 0 1 2) (link 0 1 2) []) (refusal is 11 ∷ [])

-- C8: one change rises, the other falls.
--
--        0 --2-> 1          0 --3-> 1
--        0 <-2-- 1          0 <-1-- 1
abbrev C8 : Case
C8 = case (bench 2 (both 0 1 2) (link 0 1 3 ++ link 1 0 1) []) (refusal is 12 ∷ [])

-- C9: two changes that share no router.
--
--        0 --1-- 1          0 --2-> 1
--                           0 <-1-- 1
--        2 --1-- 3          2 --2-> 3
--                           2 <-1-- 3
abbrev C9 : Case
C9 = case (bench 4 (both 0 1 1 ++ both 2 3 1) (link 0 1 2 ++ link 2 3 2) []) (refusal is 13 ∷ [])

-- C10: C1's links, and no change.
abbrev C10 : Case
C10 = case (bench 3 (triangle 3) [] []) (refusal is 10 ∷ [])

-- C11: in C1, router 1 would write while it waits.
abbrev C11 : Case
C11 = case rehearsal (step 3 is refused 24 ∷ [])

-- C12: in C1, router 0 is done, and its message reaches router 1 twice.
abbrev C12 : Case
C12 = case rehearsal (step 8 is ok ∷ step 9 is ignored ∷ [])

-- C13: a distance that equals the metric of a link that is not used; there is no link from 0 to 2.
--
--        0 --1-- 1 --16,777,214-> 2
--                1 <-1----------- 2
abbrev C13 : Case
C13 =
    case (bench 3 (both 0 1 1 ++ link 1 2 16_777_214 ++ link 2 1 1) [] [])
    (distance 0 2 is 16_777_215 ∷ set 0 2 is 2 ∷ [])

-- ---- running sheets (02, No. 1)
-- these routers in their order, and 0 in all other of the 64 entries
abbrev places : (routers : List ℕ) → List ℕ
places routers = take 64 (routers ++ replicate 64 0)

-- In C1 and in C4 router 1 waits for 0 and 2.
abbrev sheet_c1 : Case
sheet_c1 = case C1.file (sheet is places (0 ∷ 2 ∷ 1 ∷ []) ∷ [])

-- In C2 routers 0 and 2 wait for 1.
abbrev sheet_c2 : Case
sheet_c2 = case C2.file (sheet is places (1 ∷ 0 ∷ 2 ∷ []) ∷ [])

abbrev sheet_c4 : Case
sheet_c4 = case C4.file (sheet is places (0 ∷ 2 ∷ 1 ∷ []) ∷ [])

-- C9 is refused.
abbrev sheet_c9 : Case
sheet_c9 = case C9.file (sheet is places [] ∷ [])

-- The lowest number that could come, and no order by rank, which would be 0 2 1 3: once 0 stands there, 1 waits for no
-- other, and neither does 2.
--
--        0 --1-- 1 --1-- 3 --1-- 2          0 --1-- 1 --2-> 3 <-2-- 2
--                                           0 --1-- 1 <-1-- 3 --1-> 2
abbrev lowest_first : Case
lowest_first =
    case (bench 4 (both 0 1 1 ++ both 1 3 1 ++ both 2 3 1) (link 2 3 2 ++ link 1 3 2) [])
    (ranks is (0 ∷ 1 ∷ 0 ∷ 2 ∷ []) ∷ sheet is places (0 ∷ 1 ∷ 2 ∷ 3 ∷ []) ∷ [])

abbrev pub sheets : List Case
sheets = sheet_c1 ∷ sheet_c2 ∷ sheet_c4 ∷ sheet_c9 ∷ lowest_first ∷ []

-- ---- the order of the changes (02, No. 2)
-- A fall of three changes that have router 1 in common. In either order the root is 1, and 0 and 2 wait for it; in the
-- second the lower end of the first change is not common.
--
--        0 --2-- 1 --2-- 2          0 --1-- 1 --1-> 2
--                                           1 <-2-- 2
abbrev three_changes : (changes : List ℕ) → Case
three_changes changes =
    case (bench 3 (both 0 1 2 ++ both 1 2 2) changes [])
    (root is 1 ∷ ranks is (1 ∷ 0 ∷ 1 ∷ []) ∷ waits is (2 ∷ 0 ∷ 2 ∷ []) ∷ [])

-- The number of a refusal is that of the first faulty change, so it does depend on the order: there is no link from 1
-- to itself, and there is no router 3.
abbrev two_faults : (changes : List ℕ) (number : ℕ) → Case
two_faults changes number = case (bench 3 (triangle 3) changes []) (refusal is number ∷ [])

abbrev pub orders : List Case
orders =
    three_changes (link 1 2 1 ++ link 1 0 1 ++ link 0 1 1)
    ∷ three_changes (link 0 1 1 ++ link 1 2 1 ++ link 1 0 1)
    ∷ two_faults (link 1 1 2 ++ link 3 0 2) 5
    ∷ two_faults (link 3 0 2 ++ link 1 1 2) 4
    ∷ []

-- ---- links that are up at one end only (02, No. 4)
-- One direction has a metric and the other has none: the link carries nothing, either way.
--
--        0 --5-> 1
abbrev half_link : Case
half_link =
    case (bench 2 (link 0 1 5) [] [])
    (distance 0 1 is 4_294_967_295 ∷ set 0 1 is 0 ∷ distance 1 0 is 4_294_967_295 ∷ set 1 0 is 0 ∷ [])

-- One direction comes up alone: nothing is usable that was not.
abbrev half_comes_up : Case
half_comes_up = case (bench 2 [] (link 0 1 5) []) (refusal is 11 ∷ [])

-- The other one comes up too, and it alone is listed: a fall, and both directions are usable.
abbrev other_comes_up : Case
other_comes_up =
    case (bench 2 (link 0 1 5) (link 1 0 7) [])
    (refusal is 0 ∷ old_set 0 1 is 0 ∷ new_set 0 1 is 2 ∷ new_set 1 0 is 1 ∷ [])

-- One direction goes down, and with it the other, which is not listed.
abbrev half_goes_down : Case
half_goes_down =
    case (bench 2 (both 0 1 5) (link 0 1 down) [])
    (refusal is 0 ∷ old_set 1 0 is 1 ∷ new_set 1 0 is 0 ∷ [])

-- One direction gets a smaller metric and the other goes down: neither is usable any longer, so it is a rise, and 1
-- waits for 0 in it.
abbrev smaller_and_down : Case
smaller_and_down =
    case (bench 3 (both 0 1 5 ++ both 1 2 1) (link 1 2 3 ++ link 2 1 down) [])
    (refusal is 0 ∷ root is 1 ∷ waits is (0 ∷ 5 ∷ 0 ∷ []) ∷ [])

-- 2→0 has no link back, so it has no effect; beside 1→0, which has one, it is allowed, and is listed: the root is
-- 0, the only router in common. With 2→3 there is none.
abbrev without_effect : Case
without_effect = case (bench 3 (both 0 1 5) (link 1 0 7 ++ link 2 0 4) []) (refusal is 0 ∷ root is 0 ∷ [])

abbrev without_common : Case
without_common = case (bench 4 (both 0 1 5) (link 0 1 7 ++ link 2 3 4) []) (refusal is 13 ∷ [])

-- Where no usable metric differs it is 11, after the faults of all entries, and before 13: C9 without its links back.
abbrev after_entries : Case
after_entries = case (bench 2 [] (link 0 1 5 ++ link 0 9 5) []) (refusal is 4 ∷ [])

abbrev before_common : Case
before_common = case (bench 4 (link 0 1 1 ++ link 2 3 1) (link 0 1 2 ++ link 2 3 2) []) (refusal is 11 ∷ [])

-- A usable metric rises and another falls; one that falls in the table alone does not count.
abbrev mixed : Case
mixed = case (bench 3 (both 0 1 5 ++ both 0 2 5) (link 0 1 7 ++ link 0 2 3) []) (refusal is 12 ∷ [])

abbrev not_mixed : Case
not_mixed = case (bench 3 (both 0 1 5 ++ link 0 2 5) (link 0 1 7 ++ link 0 2 3) []) (refusal is 0 ∷ [])

abbrev pub half_links : List Case
half_links =
    half_link ∷ half_comes_up ∷ other_comes_up ∷ half_goes_down ∷ smaller_and_down ∷ without_effect ∷ without_common
    ∷ after_entries ∷ before_common ∷ mixed ∷ not_mixed ∷ []

-- ---- dead links (02, No. 5)
-- Read refuses a file that lists one, and the old reader accepts it; it is rewritten without it, and with times.
abbrev dead_link : Case
dead_link =
    case (0x02 ∷ 0x00 ∷ 0x01 ∷ 0x00 ∷ 0x01 ∷ 0xFF ∷ 0xFF ∷ 0xFF ∷ 0x00 ∷ 0x00 ∷ 0x00 ∷ [])
    (refusal is 30 ∷ old_refusal is 0
    ∷ rewrites is (0x02 ∷ 0x00 ∷ 0x00 ∷ 0x00 ∷ 0x00 ∷ 0x00 ∷ 0x00 ∷ 0x01 ∷ 0x00 ∷ 0x00 ∷ [])
    ∷ [])

-- The others keep their order, and changes and steps stay as they are.
abbrev dead_among_live : Case
dead_among_live =
    case
    (stored 3 (link 2 0 down ++ link 0 1 1 ++ link 1 2 down ++ link 1 0 1 ++ link 2 1 down) (both 1 2 down) (learn 1))
    (refusal is 30 ∷ rewrites is bench 3 (both 0 1 1) (both 1 2 down) (learn 1) ∷ [])

-- The same dead link twice: 30 comes before 7, and for the old reader the pair is in the list already.
abbrev dead_twice : Case
dead_twice =
    case (stored 2 (link 0 1 down ++ link 0 1 down) [] [])
    (refusal is 30 ∷ old_refusal is 7 ∷ rewrites is word "refused 7\n" ∷ [])

-- 4, 5 and 6 come before 30, and the first link with a fault decides.
abbrev dead_elsewhere : (links : List ℕ) (number old : ℕ) → Case
dead_elsewhere links number old =
    case (stored 2 links [] []) (refusal is number ∷ old_refusal is old ∷ [])

-- A change may take a link down: C1. The old reader takes the hold time for the count of no step, and all behind it is
-- too much, so that a file is rewritten once.
abbrev dead_change : Case
dead_change = case rehearsal (refusal is 0 ∷ old_refusal is 2 ∷ rewrites is word "refused 2\n" ∷ [])

-- C1 as a stored file. Read takes the count of the steps, 10, for the hold time, and the first four bytes of the steps
-- for the step time and the count of two steps: there is too much behind these.
abbrev stored_change : Case
stored_change =
    case (stored 3 (triangle 3) (both 1 2 down) ten_steps)
    (refusal is 2 ∷ old_refusal is 0 ∷ rewrites is rehearsal ∷ [])

abbrev pub dead_links : List Case
dead_links =
    dead_link ∷ dead_among_live ∷ dead_twice
    ∷ dead_elsewhere (link 0 2 down) 4 4
    ∷ dead_elsewhere (link 1 1 down) 5 5
    ∷ dead_elsewhere (link 0 1 0 ++ link 1 0 down) 6 6
    ∷ dead_elsewhere (link 0 1 down ++ link 1 0 0) 30 6
    ∷ dead_change ∷ stored_change ∷ []

-- ---- areas from IS-IS (02, No. 6)
-- an identity, all of whose seven bytes are x; a row of the table of identities; an entry at the metric m
abbrev identity : (x : ℕ) → List ℕ
identity x = replicate 7 x

abbrev row : (x router : ℕ) → List ℕ
row x router = identity x ++ (router ∷ [])

abbrev entry : (x m : ℕ) (sub_tlvs : List ℕ) → List ℕ
entry x m sub_tlvs = identity x ++ (m / 65_536 ∷ m / 256 % 256 ∷ m % 256 ∷ length sub_tlvs ∷ sub_tlvs)

-- a list behind its length
abbrev list : (entries : List ℕ) → List ℕ
list entries = two (length entries) ++ entries

-- A is router 0, and B and C are router 1. A stands a second time, as router 1, and that row does not count.
abbrev identities : List ℕ
identities = row 0xA 0 ++ row 0xB 1 ++ row 0xA 1 ++ row 0xC 1

abbrev isis_link : (i j m : ℕ) → Result
isis_link i j m = isis_metric 2 identities i j is m

-- A link in both directions, each from its own end.
abbrev both_ends : Case
both_ends =
    case (list (entry 0xB 5 []) ++ list (entry 0xA 7 []))
    (isis 2 identities 4_096 is 0
    ∷ isis_link 0 1 5 ∷ isis_link 1 0 7 ∷ isis_link 0 0 down ∷ isis_link 2 0 down ∷ [])

-- Of two entries for one router the lower counts, whichever identity it has. Sub-TLVs are skipped.
abbrev lowest_entry : Case
lowest_entry =
    case (list (entry 0xB 5 [] ++ entry 0xC 3 (1 ∷ 2 ∷ 3 ∷ [])) ++ list [])
    (isis 2 identities 4_096 is 0 ∷ isis_link 0 1 3 ∷ isis_link 1 0 down ∷ [])

-- An entry may have the metric of a link that is not used, and gives no link.
abbrev dead_entry : Case
dead_entry = case (list (entry 0xB down []) ++ list []) (isis 2 identities 4_096 is 0 ∷ isis_link 0 1 down ∷ [])

-- After a refusal the metric table has no link, not even one of a list before the fault.
abbrev after_refusal : Case
after_refusal =
    case (list (entry 0xB 5 []) ++ list (entry 0xC 7 []))
    (isis 2 identities 4_096 is 5 ∷ isis_link 0 1 down ∷ [])

abbrev pub isis_areas : List Case
isis_areas = both_ends ∷ lowest_entry ∷ dead_entry ∷ after_refusal ∷ []

-- lists of two routers, and the number with which they are refused: 0 where they are not, as for 244 bytes of sub-TLVs
abbrev isis_row : (lists : List ℕ) (number : ℕ) → Case
isis_row lists number = case lists (isis 2 identities 4_096 is number ∷ [])

-- The size of the metric table, then n, then the rows of the table of identities, then the lists.
abbrev table_order : (n : ℕ) (table : List ℕ) (cells number : ℕ) → Case
table_order n table cells number = case [] (isis n table cells is number ∷ [])

abbrev pub isis_faults : List Case
isis_faults =
    isis_row (0x00 ∷ 0x05 ∷ word "abcd") 1
    ∷ isis_row (list (word "ab") ++ list []) 31
    ∷ isis_row (list (entry 0xB 5 (replicate 245 0)) ++ list []) 32
    ∷ isis_row (list (entry 0xB 5 (replicate 244 0)) ++ list []) 0
    ∷ isis_row (list (entry 0xF 0 []) ++ list []) 33
    ∷ isis_row (list (entry 0xA 0 []) ++ list []) 5
    ∷ isis_row (list (entry 0xB 0 []) ++ list (word "a")) 6
    ∷ isis_row (list [] ++ list [] ++ word "a") 2
    ∷ table_order 2 (row 0xA 2 ++ (0x00 ∷ [])) 4_096 4
    ∷ table_order 2 (identities ++ (0x00 ∷ [])) 4_096 1
    ∷ table_order 65 (0x00 ∷ []) 4_096 3
    ∷ table_order 65 (0x00 ∷ []) 4_095 8 ∷ []

-- ---- the largest areas (02, No. 7)
-- the links between router 0 and each of the next k, all of them down
unfoldable pub hub : (k : ℕ) → List ℕ
hub zero = []
hub (suc k) = hub k ++ both 0 (suc k) down

-- A file has up to 64 routers.
abbrev sixty_four : Case
sixty_four = case (stored 64 (both 62 63 1) [] []) (old_refusal is 0 ∷ [])

abbrev sixty_five : Case
sixty_five = case (bench 65 (both 62 63 1) [] []) (refusal is 3 ∷ old_refusal is 3 ∷ [])

-- A list has up to 126 changes, and then each of them is judged: router 2 is none of two.
abbrev most_changes : Case
most_changes = case (bench 2 [] (hub 63) []) (refusal is 4 ∷ [])

abbrev more_changes : Case
more_changes = case (bench 2 [] (hub 63 ++ link 1 2 down) []) (refusal is 9 ∷ [])

-- the last two routers list each other
abbrev last_two : Case
last_two =
    case (replicate 124 0 ++ list (entry 0xB 5 []) ++ list (entry 0xA 7 []))
    (isis 64 (row 0xA 62 ++ row 0xB 63) 4_096 is 0
    ∷ isis_metric 64 (row 0xA 62 ++ row 0xB 63) 62 63 is 5
    ∷ isis_metric 64 (row 0xA 62 ++ row 0xB 63) 63 62 is 7 ∷ [])

abbrev pub largest : List Case
largest = sixty_four ∷ sixty_five ∷ most_changes ∷ more_changes ∷ last_two ∷ []

-- ---- how many calls (02, No. 8)
-- In C1 and in C4 three routers learn, are released and finish: 9 calls. Due are {2}, {2} and {0, 1}: 4 writes. Router
-- 1 waits for 0 and 2: 2 messages. Together 15. Seven of C1's ten steps are answered ok, and 8 are missing: router 1
-- hears from 2, writes 2 and finishes; router 2 learns, is released, writes 0 and 1 and finishes.
abbrev counted_c1 : Case
counted_c1 = case C1.file (needs is 15 ∷ missing is 8 ∷ [])

-- C4 has no steps, so nothing has been done.
abbrev counted_c4 : Case
counted_c4 = case C4.file (needs is 15 ∷ missing is 15 ∷ [])

-- In C2 due are {2}, {2} and {0, 1}, and 0 and 2 wait for 1: 9 + 4 + 2.
abbrev counted_c2 : Case
counted_c2 = case C2.file (needs is 15 ∷ [])

-- In C3 too, 9 + 4 + 2: 0 and 2 are as far from each other as before, and by other next hops, so both are due.
abbrev counted_c3 : Case
counted_c3 = case C3.file (needs is 15 ∷ [])

-- C1 and C2 with the other end as the root: 2→0 is listed too, at the metric that it has, so 2 is the only router in
-- common. Others are waited for, and as many.
abbrev other_root : (links changes waitingSets : List ℕ) → Case
other_root links changes waitingSets =
    case (bench 3 links (changes ++ link 2 0 3) []) (root is 2 ∷ waits is waitingSets ∷ needs is 15 ∷ [])

-- C9 is refused: its record has no router.
abbrev counted_c9 : Case
counted_c9 = case C9.file (needs is 0 ∷ missing is 0 ∷ [])

-- The only link of two routers goes down. Due are 1 at router 0 and 0 at router 1, and 0, the root, waits for 1, which
-- reaches it by this link: 3 * 2 + (1 + 1) + (1 + 0) = 9.
--
--        0 --1-- 1          0       1
abbrev only_link : (steps : List ℕ) → List ℕ
only_link steps = bench 2 (both 0 1 1) (both 0 1 down) steps

abbrev counted_link : Case
counted_link = case (only_link []) (waits is (2 ∷ 0 ∷ []) ∷ needs is 9 ∷ missing is 9 ∷ [])

-- A list that ends with both routers done: nine steps are answered ok, and a repeated message is not counted.
abbrev all_done : Case
all_done =
    case
    (only_link
    (learn 0 ++ learn 1 ++ release 1 ++ write 1 0 ++ finish 1 ++ deliver 1 0 ++ deliver 1 0
    ++ release 0 ++ write 0 1 ++ finish 0))
    (all_steps is (ok ∷ ok ∷ ok ∷ ok ∷ ok ∷ ok ∷ ignored ∷ ok ∷ ok ∷ ok ∷ []) ∷ needs is 9 ∷ missing is 0 ∷ [])

abbrev pub counted : List Case
counted =
    counted_c1 ∷ counted_c4 ∷ counted_c2 ∷ counted_c3
    ∷ other_root (triangle 3) (both 1 2 down) (0 ∷ 1 ∷ 2 ∷ [])
    ∷ other_root (both 0 1 1 ++ both 0 2 3) (both 1 2 1) (2 ∷ 4 ∷ 0 ∷ [])
    ∷ counted_c9 ∷ counted_link ∷ all_done ∷ []

-- ---- four next hops in hardware (02, No. 9)
-- Five ways from 0 to 6 cost the same: the full set is {1, 2, 3, 4, 5}, and the set of four {1, 2, 3, 4}. Every link is
-- at 1.
--
--              1
--            / 2 \
--        0 --- 3 --- 6
--            \ 4 /
--              5
abbrev five_ways : List ℕ
five_ways =
    both 0 1 1 ++ both 0 2 1 ++ both 0 3 1 ++ both 0 4 1 ++ both 0 5 1
    ++ both 1 6 1 ++ both 2 6 1 ++ both 3 6 1 ++ both 4 6 1 ++ both 5 6 1

-- A set of two is its own set of four, and a cell with a row or a column beyond n is 0.
abbrev five_equal : Case
five_equal =
    case (bench 7 five_ways [] [])
    (set 0 6 is 62 ∷ four 0 6 is 30 ∷ set 1 5 is 65 ∷ four 1 5 is 65 ∷ four 0 7 is 0 ∷ four 7 0 is 0 ∷ [])

-- Link 5–6 goes down, and the full set from 0 to 6 loses its highest member. The set of four stays: 6 is not due at 0.
abbrev highest_goes : Case
highest_goes =
    case (bench 7 five_ways (both 5 6 down) [])
    (old_set 0 6 is 62 ∷ new_set 0 6 is 30 ∷ old_four 0 6 is 30 ∷ new_four 0 6 is 30 ∷ due 0 is 0 ∷ [])

-- Link 1–6 goes down, and the full set loses its lowest member. Router 5 comes into the set of four: 6 is due at 0.
abbrev lowest_goes : Case
lowest_goes =
    case (bench 7 five_ways (both 1 6 down) [])
    (old_set 0 6 is 62 ∷ new_set 0 6 is 60 ∷ old_four 0 6 is 30 ∷ new_four 0 6 is 60 ∷ due 0 is 64 ∷ [])

-- Link 4–5, at 2, goes down; all other links are at 1. From 5 to 4 the full set is {0, 1, 2, 3, 4}, and the set of four
-- does not have 4. No set of four changes, so nothing is due; and yet 4, the root, waits for 5 too, whose full set has
-- it: 3 * 6 + 0 + (4 + 5) calls.
--
--              0                    0
--            / 1 \                / 1 \
--        4 --- 2 --- 5        4 --- 2 --- 5
--        |   \ 3 /   |            \ 3 /
--        +-----------+
abbrev four_ways : List ℕ
four_ways =
    both 0 4 1 ++ both 1 4 1 ++ both 2 4 1 ++ both 3 4 1
    ++ both 0 5 1 ++ both 1 5 1 ++ both 2 5 1 ++ both 3 5 1

abbrev not_due_waited_for : Case
not_due_waited_for =
    case
    (bench 6 (four_ways ++ both 4 5 2) (both 4 5 down)
    (learn 4 ++ learn 5 ++ release 5 ++ write 5 4 ++ finish 5 ++ deliver 5 4))
    (root is 4 ∷ old_set 5 4 is 31 ∷ new_set 5 4 is 15 ∷ old_four 5 4 is 15 ∷ new_four 5 4 is 15 ∷ due 5 is 0
    ∷ waits is (32 ∷ 32 ∷ 32 ∷ 32 ∷ 47 ∷ 0 ∷ []) ∷ all_steps is (ok ∷ ok ∷ ok ∷ refused 25 ∷ ok ∷ ok ∷ []) ∷ needs is 27
    ∷ [])

-- Link 4–5 comes up again: 5 waits for all of its new full set to the root, 4 among it, and nothing is due at 5.
abbrev not_due_waits : Case
not_due_waits =
    case (bench 6 four_ways (both 4 5 2) [])
    (root is 4 ∷ old_four 5 4 is 15 ∷ new_set 5 4 is 31 ∷ new_four 5 4 is 15 ∷ due 5 is 0
    ∷ waits is (16 ∷ 16 ∷ 16 ∷ 16 ∷ 0 ∷ 31 ∷ []) ∷ [])

abbrev pub five_next_hops : List Case
five_next_hops = five_equal ∷ highest_goes ∷ lowest_goes ∷ not_due_waited_for ∷ not_due_waits ∷ []

-- ---- rank timers (02, No. 10)
-- C1 with a hold time and a step time
abbrev timed_c1 : (hold pace : ℕ) (steps : List ℕ) → List ℕ
timed_c1 hold pace steps = timed hold pace 3 (triangle 3) (both 1 2 down) steps

-- The record has the times of the file, high byte first; the clock and the learn times are 0. They change no rank.
abbrev fresh_times : Case
fresh_times =
    case (timed_c1 258 772 [])
    (times is (258 ∷ 772 ∷ 0 ∷ 0 ∷ 0 ∷ 0 ∷ []) ∷ ranks is (0 ∷ 1 ∷ 0 ∷ []) ∷ needs is 15 ∷ [])

abbrev longest_times : Case
longest_times =
    case (timed_c1 65_535 65_535 [])
    (refusal is 0 ∷ times is (65_535 ∷ 65_535 ∷ 0 ∷ 0 ∷ 0 ∷ 0 ∷ []) ∷ [])

-- Read takes a step time of 0, and Plan refuses it, before all that is wrong with the changes: here there is none. The
-- record has no time.
abbrev no_step_time : Case
no_step_time = case (timed_c1 7 0 []) (refusal is 36 ∷ times is (0 ∷ 0 ∷ 0 ∷ 0 ∷ 0 ∷ 0 ∷ []) ∷ [])

abbrev no_step_time_first : Case
no_step_time_first = case (timed 7 0 3 (triangle 3) [] []) (refusal is 36 ∷ [])

-- A tick moves the clock, whatever its other bytes are. Learn notes it, and release does not. There is no kind 7.
abbrev learn_times : Case
learn_times =
    case
    (timed_c1 0 1
    (tick 0 0 ++ learn 0 ++ tick 64 255 ++ learn 2 ++ tick 3 3 ++ release 0 ++ (7 ∷ 0 ∷ 0 ∷ [])))
    (all_steps is (ok ∷ ok ∷ ok ∷ ok ∷ ok ∷ ok ∷ refused 21 ∷ [])
    ∷ times_after is (0 ∷ 1 ∷ 3 ∷ 1 ∷ 0 ∷ 2 ∷ []) ∷ [])

-- With hold time 2, router 0 learns at 1 and is held until 3. An idle router is refused for its state.
abbrev hold_down : Case
hold_down =
    case
    (timed_c1 2 1 (release 0 ++ tick 0 0 ++ learn 0 ++ release 0 ++ tick 0 0 ++ release 0 ++ tick 0 0 ++ release 0))
    (all_steps is (refused 23 ∷ ok ∷ ok ∷ refused 34 ∷ ok ∷ refused 34 ∷ ok ∷ ok ∷ []) ∷ [])

-- The only link of two routers goes down, as above, with hold time 1 and step time 2. Router 0 waits for 1, and so has
-- rank 1. It learns at 0: due at 0 + 1 + 1 * 2 = 3, and 24 up to then. No message comes. Of its calls four count, and 5
-- are missing: router 1 learns, is released, writes and finishes, and its message.
abbrev timed_link : (steps : List ℕ) → List ℕ
timed_link steps = timed 1 2 2 (both 0 1 1) (both 0 1 down) steps

abbrev by_timer : Case
by_timer =
    case
    (timed_link
    (learn 0 ++ tick 0 0 ++ release 0 ++ tick 0 0 ++ write 0 1 ++ finish 0 ++ tick 0 0
    ++ finish 0 ++ write 0 1 ++ finish 0))
    (due_time 0 is 3
    ∷ all_steps is (ok ∷ ok ∷ ok ∷ ok ∷ refused 24 ∷ refused 24 ∷ ok ∷ refused 26 ∷ ok ∷ ok ∷ [])
    ∷ needs is 9 ∷ missing is 5 ∷ [])

-- both learn, are released at 1, and 0 writes by its timer at 3; then 1 is done
abbrev written_by_timer : List ℕ
written_by_timer =
    learn 0 ++ learn 1 ++ tick 0 0 ++ release 0 ++ release 1 ++ tick 0 0 ++ tick 0 0
    ++ write 0 1 ++ write 1 0 ++ finish 1

-- The message still comes while 0 is ongoing, and is taken: nine calls count, and the three ticks do not.
abbrev late_message : Case
late_message =
    case (timed_link (written_by_timer ++ deliver 1 0 ++ finish 0))
    (all_steps is replicate 12 ok ∷ needs is 9 ∷ missing is 0 ∷ [])

-- It comes once 0 is done, and is ignored: all routers are done, and one call is missing.
abbrev lost_message : Case
lost_message =
    case (timed_link (written_by_timer ++ finish 0 ++ deliver 1 0))
    (all_steps is (replicate 11 ok ++ (ignored ∷ [])) ∷ needs is 9 ∷ missing is 1 ∷ [])

-- The same with a longer hold time, of which the due time has all: router 1 learns at 2.
abbrev due_times : Case
due_times =
    case (timed 300 1_000 2 (both 0 1 1) (both 0 1 down) (tick 0 0 ++ learn 0 ++ tick 0 0 ++ learn 1))
    (due_time 0 is 1_301 ∷ due_time 1 is 302 ∷ [])

abbrev pub timers : List Case
timers =
    fresh_times ∷ longest_times ∷ no_step_time ∷ no_step_time_first ∷ learn_times ∷ hold_down ∷ by_timer
    ∷ late_message ∷ lost_message ∷ due_times ∷ []

-- ---- the rehearsal, with the lines that 01 has below its file, as they are since 02, No. 2, and the one of No. 8
abbrev router_lines : List ℕ
router_lines =
    word "router 0 rank 0 waits 0 tells 2 due 4\n"
    ++ word "router 1 rank 1 waits 5 tells 0 due 4\n"
    ++ word "router 2 rank 0 waits 0 tells 2 due 3\n"

abbrev needs_line : List ℕ
needs_line = word "needs 15\n"

abbrev step_lines : List ℕ
step_lines =
    word "step 1 ok\nstep 2 ok\nstep 3 refused 24\nstep 4 ok\nstep 5 ok\n"
    ++ word "step 6 ok\nstep 7 ok\nstep 8 ok\nstep 9 ignored\nstep 10 refused 24\nend\n"

-- all ten replies, and all that is printed
abbrev replied : Case
replied =
    case rehearsal
    (all_steps is (ok ∷ ok ∷ refused 24 ∷ ok ∷ ok ∷ ok ∷ ok ∷ ok ∷ ignored ∷ refused 24 ∷ []) ∷ [])

abbrev whole_text : Case
whole_text = case rehearsal (printed is (router_lines ++ needs_line ++ step_lines) ∷ [])

abbrev pub rehearsed : List Case
rehearsed = replied ∷ whole_text ∷ []

-- ---- all rows, and what the theorem says of them
unfoldable pub cases : List Case
cases =
    C1 ∷ C2 ∷ C3 ∷ C4 ∷ C5 ∷ C6 ∷ C7 ∷ C8 ∷ C9 ∷ C10 ∷ C11 ∷ C12 ∷ C13
    ∷ sheets ++ orders ++ half_links ++ dead_links ++ isis_areas ++ isis_faults ++ largest ++ counted ++ five_next_hops
    ++ timers ++ rehearsed

-- the questions of a row, with the definitions' answers
abbrev pub answered : (c : Case) → List Result
answered c = map (λ r. r.asked is answer c.file r.asked) c.results

-- in every row these are its results
abbrev pub Agree : (cs : List Case) → Type 0
Agree [] = Unit {0}
Agree (c ∷ cs) = (answered c ≡ c.results) × Agree cs
