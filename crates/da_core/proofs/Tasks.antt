-- What a process has to do where a move takes it on comes from its class.
use Rattle.std.proofs.Common.{◌≡◌, ℕ, zero, suc, List, [], ◌∷◌, ◌++◌, length, Option, Some, None, refl, sym, subst, inl, inr}
use Rattle.std.specs.Prelude.{slice_get}
use Rattle.std.specs.List.{All}
use Rattle.std.proofs.lemmas.List.Elements.{All-nil, All-cons, All-append, All-head, All-tail}
use Rattle.da_values.specs.Sets.{Has}
use Rattle.da_lang.specs.declared.program.Alt.{Alt}
use Rattle.da_lang.specs.declared.program.Class.{Class}
use Rattle.da_lang.specs.declared.program.Item.{Item}
use Rattle.da_lang.specs.declared.program.ItemKind.TheOpen as kind
use Rattle.da_lang.specs.declared.program.ItemKind.TheViews.{out-Alt}
use Rattle.da_lang.specs.declared.program.ProcDecl.{ProcDecl}
use Rattle.da_lang.specs.declared.program.Program.{Program}
use Rattle.da_lang.specs.declared.program.SetupCall.{SetupCall}
use Rattle.da_lang.specs.Shaped.{IsItemOf, IsSetUp, IsTask, ShapedTasks}
use Rattle.da_lang.specs.Steps.{first_tasks, preparing, setup_of_decl}
use Rattle.da_lang.specs.Turns.{do_all, kind_of}
use Rattle.da_lang.specs.World.{Task, Do, Prepare, at_number}
use Rattle.da_types.proofs.shaped.TasksKept.{alt_block, block_tasks, do_all_tasks, run_item, timeout_block}

-- the member that stands at a place is a member
pub has_at : {A : Type 0} (xs : List A) (n : ℕ) (x : A) → slice_get xs n ≡ Some x → Has xs x
has_at {A} [] n x there = absurd (let none : ◌≡◌ {A = Option A} None (Some x) = there in cc)
has_at {A} (y ∷ ys) zero x there = inl (let same : ◌≡◌ {A = Option A} (Some y) (Some x) = there in cc)
has_at (y ∷ ys) (suc n) x there = inr (has_at ys n x there)

module _ (p : Program) (class : Class) (me : ℕ) where
  abbrev Is : Task → Type 0
  Is = IsTask p class me

  by_setup : (decl : ProcDecl) (setup : Option SetupCall) → at_number p.procs me ≡ Some decl → decl.setup ≡ setup → All Is (preparing setup)
  by_setup decl None there is = All-nil Is
  by_setup decl (Some call) there is = All-cons Is (Prepare call) [] (subst (λ found. IsSetUp found call) (sym there) is) (All-nil Is)

  by_decl : (found : Option ProcDecl) → at_number p.procs me ≡ found → All Is (preparing (setup_of_decl found))
  by_decl None there = All-nil Is
  by_decl (Some decl) there = by_setup decl decl.setup there refl

  pub first_shaped : ShapedTasks p class me (first_tasks p class me)
  first_shaped =
      All-append Is (preparing (setup_of_decl (at_number p.procs me))) (do_all class.run []) (by_decl (at_number p.procs me) refl)
      (do_all_tasks p class me class.run [] (λ j has. run_item class j has) (All-nil Is))

  module _ (i : Item) (todo rest : List Task) (first : todo ≡ Do i ∷ rest) (tasks : ShapedTasks p class me todo) where
    pub item_shaped : IsItemOf class i
    item_shaped = All-head Is (Do i) rest (subst (All Is) first tasks)

    pub rest_shaped : ShapedTasks p class me rest
    rest_shaped = All-tail Is (Do i) rest (subst (All Is) first tasks)

    pub alt_shaped : (alts : List Alt) (timeout : Option (List Item)) (label : Option ℕ) (a : Alt) (n : ℕ) → kind_of i ≡ kind.Await alts timeout label → slice_get alts n ≡ Some a
        → ShapedTasks p class me (do_all (out-Alt a).body rest)
    alt_shaped alts timeout label a n is there = block_tasks p class me i (out-Alt a).body rest item_shaped (alt_block i alts a is (has_at alts n a there)) rest_shaped

    pub timeout_shaped : (alts : List Alt) (body : List Item) (label : Option ℕ) → kind_of i ≡ kind.Await alts (Some body) label → ShapedTasks p class me (do_all body rest)
    timeout_shaped alts body label is = block_tasks p class me i body rest item_shaped (timeout_block i alts body is) rest_shaped

-- places in a list that got one more member
pub get_before : {A : Type 0} (xs ys : List A) (n : ℕ) (x : A) → slice_get xs n ≡ Some x → slice_get (xs ++ ys) n ≡ Some x
get_before {A} [] ys n x there = absurd (let none : ◌≡◌ {A = Option A} None (Some x) = there in cc)
get_before (y ∷ xs) ys zero x there = there
get_before (y ∷ xs) ys (suc n) x there = get_before xs ys n x there

pub get_last : {A : Type 0} (xs : List A) (x : A) → slice_get (xs ++ x ∷ []) (length xs) ≡ Some x
get_last [] x = refl
get_last (y ∷ xs) x = get_last xs x
