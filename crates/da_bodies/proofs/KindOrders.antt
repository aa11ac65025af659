-- The ranks of kinds are orders.
use Rattle.std.specs.Prelude.{◌≡◌, refl, ℕ, ◌<◌, ◌==◌, if◌then◌else◌}
use Rattle.std.proofs.Common.{◌∙◌, sym, ap, arith}
use Rattle.da_lang.specs.declared.refusal.LimitKind.{LimitKind}
use Rattle.da_lang.specs.declared.refusal.LimitKind.TheVariants as limit
use Rattle.da_lang.specs.declared.refusal.ScopeKind.{ScopeKind}
use Rattle.da_lang.specs.declared.refusal.ScopeKind.TheVariants as refusal
use Rattle.da_lang.specs.Limits as limits
use Rattle.da_lang.specs.NameRules as names
use Rattle.da_bodies.proofs.TellingLaws.{IsOrder}

name_below : (k : ScopeKind) → names.rank k < 16
name_below refusal.Unknown = omega arith
name_below refusal.Twice = omega arith
name_below refusal.Shadow = omega arith
name_below refusal.Recursive = omega arith
name_below refusal.Yield = omega arith
name_below refusal.Setup = omega arith
name_below refusal.NoRun = omega arith
name_below refusal.Arity = omega arith

-- the kind of a rank
name_at : ℕ → ScopeKind
name_at n =
    if n == 0 then refusal.Unknown else if n == 1 then refusal.Twice else if n == 2 then refusal.Shadow else if n == 3 then refusal.Recursive else
    if n == 4 then refusal.Yield else if n == 5 then refusal.Setup else if n == 6 then refusal.NoRun else refusal.Arity

name_of_rank : (k : ScopeKind) → name_at (names.rank k) ≡ k
unfolding name_at
name_of_rank refusal.Unknown = refl
name_of_rank refusal.Twice = refl
name_of_rank refusal.Shadow = refl
name_of_rank refusal.Recursive = refl
name_of_rank refusal.Yield = refl
name_of_rank refusal.Setup = refl
name_of_rank refusal.NoRun = refl
name_of_rank refusal.Arity = refl

pub name_order : IsOrder names.rank
name_order = record {
  below = name_below;
  apart = λ k l same. sym (name_of_rank k) ∙ ap name_at same ∙ name_of_rank l;
}

limit_below : (k : LimitKind) → limits.rank k < 16
limit_below limit.Classes = omega arith
limit_below limit.Processes = omega arith
limit_below limit.Items = omega arith
limit_below limit.Blocks = omega arith
limit_below limit.Variables = omega arith
limit_below limit.Parts = omega arith
limit_below limit.Generators = omega arith

-- the kind of a rank
limit_at : ℕ → LimitKind
limit_at n =
    if n == 0 then limit.Classes else if n == 1 then limit.Processes else if n == 2 then limit.Items else if n == 3 then limit.Blocks else
    if n == 4 then limit.Variables else if n == 5 then limit.Parts else limit.Generators

limit_of_rank : (k : LimitKind) → limit_at (limits.rank k) ≡ k
unfolding limit_at
limit_of_rank limit.Classes = refl
limit_of_rank limit.Processes = refl
limit_of_rank limit.Items = refl
limit_of_rank limit.Blocks = refl
limit_of_rank limit.Variables = refl
limit_of_rank limit.Parts = refl
limit_of_rank limit.Generators = refl

pub limit_order : IsOrder limits.rank
limit_order = record {
  below = limit_below;
  apart = λ k l same. sym (limit_of_rank k) ∙ ap limit_at same ∙ limit_of_rank l;
}
