-- The row so far, one form at a time.
use Rattle.std.specs.Prelude.{◌≡◌, ℕ, zero, suc, ◌+◌, ◌-◌, ◌≤◌, List, [], ◌∷◌, ◌++◌, length, map, slice_get, Option, Some, None}
use Rattle.std.proofs.Common.{ap, sym, ◌∙◌, arith}
use denote.Bor.{Bor}
use Rattle.da_values.specs.declared.val.Val.{Val}
use Rattle.da_values.specs.declared.value.Value.{Value}
use Rattle.da_values.specs.Value.{vals}
use Rattle.da_lang.specs.declared.query.Pattern.{Pattern}
use Rattle.da_lang.specs.Matching.{Row}
use Rattle.da_pattern.specs.declared.row.RowSoFar.{RowSoFar}
use Rattle.da_pattern.specs.declared.row.RowSoFar.TheVariants as so_far
use Rattle.da_pattern.specs.declared.row.RowSoFar.TheOpen as made
use Rattle.da_pattern.specs.declared.row.RowSoFar.TheFolds.{fold-roll-RowSoFar}
use Rattle.da_pattern.specs.RowView.{row_of, row_step}
use Rattle.da_pattern.specs.Taken.{taken, taken_parts}

pub row-Lent : (row : Bor Row) → row_of (so_far.Lent row) ≡ row.now
row-Lent row = ap row_of (sym (so_far.rolls-Lent row)) ∙ fold-roll-RowSoFar Row row_step (made.Lent row)

pub row-Behind : (before : Bor RowSoFar) (parts : Bor (List Pattern)) (values : Bor (List Value)) → row_of (so_far.Behind before parts values) ≡ row_of before.now ++ taken_parts (map taken parts.now) (vals values.now)
row-Behind before parts values = ap row_of (sym (so_far.rolls-Behind before parts values)) ∙ fold-roll-RowSoFar Row row_step (made.Behind before parts values)

pub ruleset rows_at = (row-Lent, row-Behind)

-- a place that lies after the row that is lent
past : (xs : Row) (at : ℕ) → slice_get xs at ≡ None → length xs ≤ at
past [] at none = omega arith
past (x ∷ xs) zero none = absurd (let clash : ◌≡◌ {A = Option Val} (Some x) None = none in cc)
past (x ∷ xs) (suc at) none = let rest = past xs at none in omega (arith, rest)

pub lent_passed : (row : RowSoFar) (lent : Bor Row) (at len : ℕ) → row ≡ so_far.Lent lent → None ≡ slice_get lent.now at → len ≡ length lent.now → at ≡ length (row_of row) + (at - len)
lent_passed row lent at len is none size =
    let behind = past lent.now at (sym none) in
    let same = ap (λ r. length (row_of r)) is ∙ ap length (row-Lent lent) in
    omega (arith, behind, same, size)
