-- The definitions agree with every row of the list of small areas.
--     agreed           the theorem
use Rattle.std.specs.Prelude.{refl, ◌++◌}
use Rattle.small_areas.specs.Questions.{answer}
use Rattle.small_areas.specs.SmallAreas.{Agree, ten_steps, hub, cases, sheets, orders, half_links, dead_links}
use Rattle.small_areas.specs.SmallAreas.{isis_areas, isis_faults, largest, counted, five_next_hops, timers, rehearsed}

-- The definitions agree with the list: both sides are computed, in each of its 89 rows.
last_rows : Agree rehearsed
unfolding answer
last_rows = (refl, (refl, tt))

timed_rows : Agree (timers ++ rehearsed)
unfolding answer
timed_rows = (refl, (refl, (refl, (refl, (refl, (refl, (refl, (refl, (refl, (refl, last_rows))))))))))

five_rows : Agree (five_next_hops ++ timers ++ rehearsed)
unfolding answer
five_rows = (refl, (refl, (refl, (refl, (refl, timed_rows)))))

counted_rows : Agree (counted ++ five_next_hops ++ timers ++ rehearsed)
unfolding answer
counted_rows = (refl, (refl, (refl, (refl, (refl, (refl, (refl, (refl, (refl, five_rows)))))))))

large_rows : Agree (largest ++ counted ++ five_next_hops ++ timers ++ rehearsed)
unfolding answer hub
large_rows = (refl, (refl, (refl, (refl, (refl, counted_rows)))))

isis_rows : Agree (isis_faults ++ largest ++ counted ++ five_next_hops ++ timers ++ rehearsed)
unfolding answer
isis_rows = (refl, (refl, (refl, (refl, (refl, (refl, (refl, (refl, (refl, (refl, (refl, (refl, large_rows))))))))))))

dead_rows :
    Agree
    (dead_links ++ isis_areas ++ isis_faults ++ largest ++ counted ++ five_next_hops ++ timers ++ rehearsed)
unfolding answer ten_steps
dead_rows =
    (refl, (refl, (refl, (refl, (refl, (refl, (refl, (refl, (refl, (refl, (refl, (refl, (refl, isis_rows)))))))))))))

half_rows :
    Agree
    (half_links ++ dead_links ++ isis_areas ++ isis_faults ++ largest ++ counted ++ five_next_hops ++ timers
    ++ rehearsed)
unfolding answer
half_rows = (refl, (refl, (refl, (refl, (refl, (refl, (refl, (refl, (refl, (refl, (refl, dead_rows)))))))))))

others :
    Agree
    (sheets ++ orders ++ half_links ++ dead_links ++ isis_areas ++ isis_faults ++ largest ++ counted ++ five_next_hops
    ++ timers ++ rehearsed)
unfolding answer
others = (refl, (refl, (refl, (refl, (refl, (refl, (refl, (refl, (refl, half_rows)))))))))

agreed : Agree cases
unfolding cases answer
agreed = (refl, (refl, (refl, (refl, (refl, (refl, (refl, (refl, (refl, (refl, (refl, (refl, (refl, others)))))))))))))
