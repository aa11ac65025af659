-- Trees that are equal but for types: the same refusals are told, and where none is, both have a program.
use Rattle.std.specs.Prelude.{◌≡◌, refl, Option, None}
use Rattle.std.proofs.Common.{◌∙◌, ap, sym, subst}
use Rattle.da_lang.specs.declared.program.Program.{Program}
use Rattle.da_lang.specs.declared.tree.Tree.{Tree}
use Rattle.da_lang.specs.declared.ty.Ty.{Ty}
use Rattle.da_lang.specs.Limits.{limit_fault, rank as limit_rank, Resolves}
use Rattle.da_lang.specs.NameRules.{name_fault, rank as name_rank}
use Rattle.da_lang.specs.Resolution.{resolved}
use Rattle.da_lang.specs.Scopes.{told}
use Rattle.untyped_laws.specs.Alike.{TreesAlike, ProgramsAlike}
use Rattle.untyped_laws.specs.Laws.{KeepsWidth}
use Rattle.untyped_laws.proofs.LimitsAlike.{limits_same}
use Rattle.untyped_laws.proofs.NamesAlike.{names_same}
use Rattle.untyped_laws.proofs.ResolvesAlike.{tree_resolves}

module _ (R : Option Ty → Option Ty → Type 0) (t u : Tree) (m : TreesAlike R t u) where
  pub name_told : name_fault t ≡ name_fault u
  name_told = ap (told name_rank) (names_same R t u m)

  module _ (r : R None None) (keeps : KeepsWidth R) where
    pub limit_told : limit_fault t ≡ limit_fault u
    limit_told = ap (told limit_rank) (limits_same R r keeps t u m)

    pub resolves_too : (p : Program) → Resolves t p → Resolves u (resolved u)
    resolves_too p ok = record { named = sym (names_same R t u m) ∙ ok.named; within = sym (limits_same R r keeps t u m) ∙ ok.within; becomes = refl }

    pub become_alike : (p q : Program) → Resolves t p → Resolves u q → ProgramsAlike R p q
    become_alike p q first second =
        subst (λ z. ProgramsAlike R z q) (sym first.becomes) (subst (λ z. ProgramsAlike R (resolved t) z) (sym second.becomes) (tree_resolves R r t u m))
