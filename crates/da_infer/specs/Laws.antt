-- Laws of programs with types for what has none.
use Rattle.std.specs.Prelude.{◌≡◌, ℕ, List, map}
use Rattle.da_lang.specs.declared.tree.Tree.{Tree}
use Rattle.da_lang.specs.declared.ty.Ty.{Ty}
use Rattle.da_lang.specs.Accepted.{IsWritten}
use Rattle.da_lang.specs.Limits.{limit_refusals}
use Rattle.da_lang.specs.NameRules.{name_refusals}
use Rattle.da_lang.specs.Resolution.{resolved}
use Rattle.da_lang.specs.Typing.{type_breaks}
use Rattle.da_parse.specs.declared.loose.LooseTree.{LooseTree}
use Rattle.type_table.specs.Draws.{numbers_from}
use Rattle.type_table.specs.Fits.{Meaning}
use Rattle.type_demands.specs.Demands.{all_met}
use Rattle.added_names.specs.Filled.{filled}
use Rattle.class_demands.specs.Prefix.{none_upto, always, demands_upto}
use Rattle.class_demands.specs.Programs.{program_demands}
use Rattle.da_infer.specs.Fills.{IsLoose, Fills, open_in, count_in}
use Rattle.da_infer.specs.Unknowns.{AreUnknowns}

-- some tokens spell each such program, few enough to be counted by 32 bits
abbrev pub FillsAreWritten : Type 0
FillsAreWritten = (l : LooseTree) → IsLoose l → (types : List Ty) (t : Tree) → Fills l types t → IsWritten t

-- names and limits do not depend on the types
pub record Alike (t u : Tree) : Type 0 where
  pub names : name_refusals t ≡ name_refusals u
  pub limits : limit_refusals t ≡ limit_refusals u

abbrev pub AgreeFor : LooseTree → Type 0
AgreeFor l = (types others : List Ty) (t u : Tree) → Fills l types t → Fills l others u → Alike t u

abbrev pub FillsAgree : Type 0
FillsAgree = (l : LooseTree) → IsLoose l → AgreeFor l

-- the unknown types in order, as many as it takes
abbrev pub types_by : LooseTree → Meaning → List Ty
types_by l m = map m (numbers_from 0 (count_in l))

-- whatever the unknown types are, the program with them breaks no rule of types up to a line exactly where all is met that is
-- demanded up to it by the program in which each of these types is unknown
abbrev pub FillsAreDemanded : Type 0
FillsAreDemanded =
    (l : LooseTree) → IsLoose l → (unknowns : List Ty) → AreUnknowns (count_in l) unknowns → (m : Meaning) (n : ℕ)
    → none_upto n (type_breaks (resolved (filled (open_in l) (types_by l m)))) ≡ all_met m always (demands_upto n (program_demands (resolved (filled (open_in l) unknowns))))
