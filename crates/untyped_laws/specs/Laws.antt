-- What a tree becomes, and the refusals by names and by limits, where types differ; and how slots take their types.
use Rattle.std.specs.Prelude.{◌≡◌, ℕ, Bool, true, List, [], map, Option, Some, None, option_map}
use Rattle.da_lang.specs.declared.program.Class.{Class}
use Rattle.da_lang.specs.declared.tree.ClassTree.{ClassTree}
use Rattle.da_lang.specs.declared.tree.MessageDecl.{MessageDecl}
use Rattle.da_lang.specs.declared.tree.Tree.{Tree}
use Rattle.da_lang.specs.declared.ty.Ty.{Ty}
use Rattle.da_lang.specs.Limits.{wide, limit_refusals}
use Rattle.da_lang.specs.NameRules.{name_refusals}
use Rattle.da_lang.specs.Resolution.{resolved, resolved_class}
use Rattle.da_lang.specs.Typing.{filled_slots}
use Rattle.da_lang.specs.Written.{type_width}
use Rattle.untyped_laws.specs.Alike.{TreesAlike, ProgramsAlike}
use Rattle.untyped_laws.specs.Flow.{Step, class_steps, bound, run_steps, lacking}
use Rattle.untyped_laws.specs.Follows.{Awaits, marked, Marks}
use Rattle.untyped_laws.specs.Retyped.{put_tree, put_slots, put_program}

-- related types are both within the limit of parts, or both over it
abbrev pub KeepsWidth : (Option Ty → Option Ty → Type 0) → Type 0
KeepsWidth R = (x y : Ty) → R (Some x) (Some y) → wide (type_width x) ≡ wide (type_width y)

-- types are related where a test says so
abbrev pub By : (Option Ty → Option Ty → Bool) → Option Ty → Option Ty → Type 0
By related x y = related x y ≡ true

-- trees that are equal but for types become programs that are equal but for types
abbrev pub ResolveAlike : Type 0
ResolveAlike = (related : Option Ty → Option Ty → Bool) → related None None ≡ true → (t u : Tree) → TreesAlike (By related) t u → ProgramsAlike (By related) (resolved t) (resolved u)

-- they have the same refusals by names
abbrev pub NamedAlike : Type 0
NamedAlike = (related : Option Ty → Option Ty → Bool) (t u : Tree) → TreesAlike (By related) t u → name_refusals t ≡ name_refusals u

-- they have the same refusals by limits, where no tuple type on one side alone is too wide
abbrev pub LimitedAlike : Type 0
LimitedAlike = (related : Option Ty → Option Ty → Bool) → related None None ≡ true → KeepsWidth (By related) → (t u : Tree) → TreesAlike (By related) t u → limit_refusals t ≡ limit_refusals u

-- the same where a function has taken each declared type to another one
abbrev pub PutResolves : Type 0
PutResolves = (put : Ty → Ty) (t : Tree) → resolved (put_tree put t) ≡ put_program put (resolved t)

abbrev pub PutNamed : Type 0
PutNamed = (put : Ty → Ty) (t : Tree) → name_refusals (put_tree put t) ≡ name_refusals t

abbrev pub PutLimited : Type 0
PutLimited = (put : Ty → Ty) → ((ty : Ty) → wide (type_width (put ty)) ≡ wide (type_width ty)) → (t : Tree) → limit_refusals (put_tree put t) ≡ limit_refusals t

-- the types that come into the slots of a class on the way are what its steps make
abbrev pub FlowIsSteps : Type 0
FlowIsSteps = (messages : List MessageDecl) (c : Class) → filled_slots messages c ≡ run_steps messages c.queries (class_steps c) c.slots

-- the steps of a class bind the slots that have no type, each once and in order
abbrev pub BoundOnce : Type 0
BoundOnce = (c : ClassTree) → bound (class_steps (resolved_class c)) ≡ lacking 1 (resolved_class c).slots

-- What numbers stand for: where they stand for the slots that a step binds, and have the types that these take, by whatever
-- stands for the slots so far, the slots of the class follow what stands for them, and something stands for each. So it is
-- for each function that takes declared types to others, while what stands for them stays.
abbrev pub SlotsFollow : Type 0
SlotsFollow = (found : ℕ → Option Ty) (messages : List MessageDecl) (c : ClassTree) (marking : Step → List (Option ℕ) → List (ℕ × ℕ)) → Marks ℕ found marking messages (resolved_class c).queries → (put : Ty → Ty) (own : Ty → ℕ) → ((ty : Ty) → found (own ty) ≡ Some (put ty))
    → Awaits ℕ found 1 (filled_slots messages (put_slots put (resolved_class c))) (marked ℕ found marking (class_steps (resolved_class c)) (map (option_map own) (resolved_class c).slots)) []
