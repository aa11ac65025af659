-- How many events may be picked, as contracts see the counts in code.
use Rattle.std.specs.Prelude.{◌≡◌, ℕ, ◌+◌, ◌<◌, ◌≤◌, ◌^◌, List, [], length, replicate, slice_index_or, slice_set, sum}
use Rattle.std.specs.List.{AllByRecursion}
use Rattle.da_lang.specs.World.{at_number}
use Rattle.da_system.specs.Channels.{or_empty, put_numbered}

-- of each process among its moves, and of each channel among its deliveries: for each sender a list by the recipient
pub record Counted : Type 0 where
  pub moves : List ℕ
  pub deliveries : List (List ℕ)

-- those of so many processes, where nothing may be picked
abbrev pub no_counts : ℕ → Counted
no_counts count = record { moves = replicate count 0; deliveries = replicate count (replicate count 0) }

-- with another count of moves at a place
abbrev pub moves_at : Counted → ℕ → ℕ → Counted
moves_at counts place n = record counts { moves = slice_set counts.moves place n }

-- with another count for recipient q in the row at a place
abbrev pub row_at : Counted → ℕ → ℕ → ℕ → Counted
row_at counts place q n = record counts { deliveries = slice_set counts.deliveries place (put_numbered (slice_index_or counts.deliveries place []) q n) }

-- with another count of the moves of process p, where there is one
abbrev pub with_moves : Counted → ℕ → ℕ → Counted
with_moves counts p n = record counts { moves = put_numbered counts.moves p n }

-- with another count of the deliveries from p to q, where there is one
abbrev pub with_deliveries : Counted → ℕ → ℕ → ℕ → Counted
with_deliveries counts p q n = record counts { deliveries = put_numbered counts.deliveries p (put_numbered (or_empty (at_number counts.deliveries p)) q n) }

-- WHAT KEEPS THE SUMS SMALL

-- a process has at most one alternative for each number of 32 bits above 0, and a move and a timeout besides
abbrev pub IsFewMoves : ℕ → Type 0
IsFewMoves n = n ≤ 2 ^ 32 + 1

-- counts of at most four, for fewer recipients than 16 bits number, and their sum
pub record IsTally (counts : List ℕ) (total : ℕ) : Type 0 where
  pub total_is : total ≡ sum counts
  pub few : AllByRecursion (λ n. n ≤ 4) counts
  pub short : length counts < 2 ^ 16
