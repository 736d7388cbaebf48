-- How records and answers go over to programs in other languages: as numbers and lists of numbers.
use Rattle.std.specs.Prelude.{ℕ, List}
use Rattle.plan.specs.declared.Record.{Record}
use Rattle.machine.specs.Answers.{Reply, ok, ignored, refused}

-- the record whose fields are these
abbrev pub record_from :
    (n root direction : ℕ) (ranks waiting telling due states written : List ℕ)
    (hold step clock : ℕ) (learned : List ℕ)
    → Record
record_from n root direction ranks waiting telling due states written hold step clock learned =
    record {
      n = n;
      root = root;
      direction = direction;
      ranks = ranks;
      waiting = waiting;
      telling = telling;
      due = due;
      states = states;
      written = written;
      hold_time = hold;
      step_time = step;
      clock = clock;
      learn_times = learned;
    }

-- the answer of a step: 0 for ok, 255 for ignored, and the refusal's number
abbrev pub reply_number : Reply → ℕ
reply_number ok = 0
reply_number ignored = 255
reply_number (refused k) = k
