-- The walk through the headers of a class, by the forms of statements.
use Rattle.std.specs.Prelude.{◌≡◌, refl, ℕ, zero, suc, ◌+◌, ◌-◌, ◌<◌, ◌≤◌, List, [], ◌∷◌, ◌++◌, map, length, Some, slice_get, slice_set}
use Rattle.std.proofs.Common.{◌∙◌, ap, ap₂, sym, append_assoc, append-nil, arith, drop, get_or}
use Rattle.std.proofs.lemmas.Grind.{flat_map-append}
use Rattle.da_lang.specs.declared.program.Alt.{Alt, out-Alt, roll-out-Alt}
use Rattle.da_lang.specs.declared.program.Class.{Class}
use Rattle.da_lang.specs.declared.program.Item.{Item, out-Item, roll-out-Item}
use Rattle.da_lang.specs.declared.program.RBranch.{RBranch, out-RBranch, roll-out-RBranch}
use Rattle.da_lang.specs.declared.query.Query.{Query}
use Rattle.type_table.specs.declared.scheme.Scheme.{Scheme}
use Rattle.type_demands.specs.declared.demand.Demand.{Demand}
use Rattle.type_demands.specs.declared.known.MessageScheme.{MessageScheme}
use Rattle.type_demands.specs.declared.known.SlotScheme.{SlotScheme}
use Rattle.type_demands.specs.declared.known.SlotScheme.TheVariants as slot
use Rattle.type_demands.specs.Demands.{at_line}
use Rattle.untyped_laws.specs.Flow.{Step, Finds, alt_steps, body_steps, branch_steps, class_steps, handler_steps, item_steps, joined, kind_steps}
use Rattle.untyped_laws.proofs.StepsAt.{alt_steps-of, branch_steps-of, item_steps-of, steps-Assign, steps-Add, steps-Del, steps-Send, steps-Output, steps-If, steps-While, steps-For, steps-Call, steps-Await, steps-Label, steps-Pass}
use Rattle.class_demands.specs.declared.demands.Head.{Head}
use Rattle.class_demands.specs.Heads.{bind_slot, bind_slots, after_step, after_steps, heads}
use Rattle.da_typing.proofs.Walks.{at_element}
use Rattle.class_demands.specs.Walks.{Goes, unlined}

-- demands that are listed on a line
pub unlined_at : (line : ℕ) (demands : List Demand) → unlined (at_line line demands) ≡ demands
unlined_at line [] = refl
unlined_at line (x ∷ xs) = ap (λ ds. x ∷ ds) (unlined_at line xs)

-- one after the other
pub after_both : (messages : List MessageScheme) (queries : List Query) (xs ys : List Step) (slots : List SlotScheme) → after_steps messages queries (xs ++ ys) slots ≡ after_steps messages queries ys (after_steps messages queries xs slots)
after_both messages queries [] ys slots = refl
after_both messages queries (x ∷ xs) ys slots = after_both messages queries xs ys (after_step messages queries x slots)

pub heads_both : (messages : List MessageScheme) (queries : List Query) (xs ys : List Step) (slots : List SlotScheme) → heads messages queries (xs ++ ys) slots ≡ heads messages queries xs slots ++ heads messages queries ys (after_steps messages queries xs slots)
heads_both messages queries [] ys slots = refl
heads_both messages queries (x ∷ xs) ys slots = ap₂ (λ (h : Head) hs. h ∷ hs) refl (heads_both messages queries xs ys (after_step messages queries x slots))

-- the walk through what is left of a list, and what comes of the whole
abbrev pub WalkLeft : List MessageScheme → List Query → List Step → List SlotScheme → List Head → List SlotScheme → List Head → Type 0
WalkLeft messages queries left slots found whole_slots whole_found = (after_steps messages queries left slots ≡ whole_slots) × (found ++ heads messages queries left slots ≡ whole_found)

pub walk_more : {A : Type 0} (messages : List MessageScheme) (queries : List Query) (f : A → List Step) (xs : List A) (i : ℕ) (x : A) (slots then_slots whole_slots : List SlotScheme) (found then_found whole_found : List Head) → i < length xs → x ≡ get_or xs i x
    → WalkLeft messages queries (joined (map f (drop i xs))) slots found whole_slots whole_found → Goes messages queries (f x) slots then_slots found then_found → WalkLeft messages queries (joined (map f (drop (i + 1) xs))) then_slots then_found whole_slots whole_found
walk_more messages queries f xs i x slots then_slots whole_slots found then_found whole_found within is so_far step =
    let left = joined (map f (drop (i + 1) xs)) in
    let here : WalkLeft messages queries (f x ++ left) slots found whole_slots whole_found = at_element (λ ys. WalkLeft messages queries (joined (map f ys)) slots found whole_slots whole_found) xs i x within is so_far in (
      ap (after_steps messages queries left) step.0 ∙ sym (after_both messages queries (f x) left slots) ∙ here.0,
      ap₂ (λ (hs : List Head) (ss : List SlotScheme). hs ++ heads messages queries left ss) step.1 step.0
          ∙ append_assoc found (heads messages queries (f x) slots) (heads messages queries left (after_steps messages queries (f x) slots))
          ∙ ap (λ (hs : List Head). found ++ hs) (sym (heads_both messages queries (f x) left slots))
          ∙ here.1,
    )

pub item_walks : (i : Item) → item_steps i ≡ kind_steps (out-Item i).kind
item_walks i = ap item_steps (sym (roll-out-Item i)) ∙ item_steps-of (out-Item i).line (out-Item i).kind

pub branch_walks : (b : RBranch) → branch_steps b ≡ Finds (out-RBranch b).binds (out-RBranch b).found ∷ body_steps (out-RBranch b).body
branch_walks b = let o = out-RBranch b in ap branch_steps (sym (roll-out-RBranch b)) ∙ branch_steps-of o.cond o.found o.binds o.body o.line

pub alt_walks : (a : Alt) → alt_steps a ≡ Finds (out-Alt a).binds (out-Alt a).found ∷ body_steps (out-Alt a).body
alt_walks a = let o = out-Alt a in ap alt_steps (sym (roll-out-Alt a)) ∙ alt_steps-of o.cond o.found o.binds o.body o.line

body_both : (xs ys : List Item) → body_steps (xs ++ ys) ≡ body_steps xs ++ body_steps ys
body_both [] ys = refl
body_both (x ∷ xs) ys = ap (λ (steps : List Step). item_steps x ++ steps) (body_both xs ys) ∙ sym (append_assoc (item_steps x) (body_steps xs) (body_steps ys))

-- the headers of a class: those of `setup`, of `run`, and of the handlers
pub class_walks : (c : Class) → class_steps c ≡ (body_steps c.setup ++ body_steps c.run) ++ joined (map handler_steps c.handlers)
class_walks c = ap (λ (steps : List Step). steps ++ joined (map handler_steps c.handlers)) (body_both c.setup c.run)

-- a slot takes a type
pub bind_none : (number : ℕ) (scheme : Scheme) (slots : List SlotScheme) → number ≡ 0 → bind_slot number scheme slots ≡ slots
bind_none zero scheme slots none = refl
bind_none (suc place) scheme slots none = absurd (omega arith)

past_all : (slots : List SlotScheme) (place : ℕ) (x : SlotScheme) → length slots ≤ place → slice_set slots place x ≡ slots
past_all [] place x past = refl
past_all (s ∷ slots) zero x past = absurd (omega (arith, past))
past_all (s ∷ slots) (suc place) x past = ap (λ (rest : List SlotScheme). s ∷ rest) (past_all slots place x (omega (arith, past)))

pub bind_past : (number : ℕ) (scheme : Scheme) (slots : List SlotScheme) → length slots < number → bind_slot number scheme slots ≡ slots
bind_past zero scheme slots past = refl
bind_past (suc place) scheme slots past = past_all slots place (slot.Bound scheme) (omega (arith, past))

pub bind_within : (number : ℕ) (scheme : Scheme) (slots : List SlotScheme) → 0 < number → bind_slot number scheme slots ≡ slice_set slots (number - 1) (slot.Bound scheme)
bind_within zero scheme slots some = absurd (omega arith)
bind_within (suc place) scheme slots some = let e : place ≡ suc place - 1 = omega arith in ap (λ n. slice_set slots n (slot.Bound scheme)) e

-- no types are left
no_rows : (bs : List ℕ) (slots : List SlotScheme) → bind_slots bs [] slots ≡ slots
no_rows [] slots = refl
no_rows (b ∷ bs) slots = refl

pub bind_short : (bs : List ℕ) (row : List Scheme) (now whole : List SlotScheme) → row ≡ [] → bind_slots bs row now ≡ whole → now ≡ whole
bind_short bs row now whole none so_far = sym (ap (λ (xs : List Scheme). bind_slots bs xs now) none ∙ no_rows bs now) ∙ so_far

-- there is a flow for each class
pub flow_within : {A B : Type 0} (f : A → B) (xs : List A) (ys : List B) (place : ℕ) (x : A) → ys ≡ map f xs → Some x ≡ slice_get xs place → place < length ys
flow_within f [] ys place x are there = absurd (cc)
flow_within f (y ∷ xs) [] place x are there = absurd (cc)
flow_within f (y ∷ xs) (z ∷ ys) zero x are there = omega arith
flow_within f (y ∷ xs) (z ∷ ys) (suc place) x are there = let more : place < length ys = flow_within f xs ys place x (cc) there in omega (arith, more)

pub flow_there : {A B : Type 0} (f : A → B) (xs : List A) (ys : List B) (place : ℕ) (x : A) (y : B) → ys ≡ map f xs → Some x ≡ slice_get xs place → y ≡ get_or ys place y → y ≡ f x
flow_there f [] ys place x y are there here = absurd (cc)
flow_there f (z ∷ xs) [] place x y are there here = absurd (cc)
flow_there f (z ∷ xs) (w ∷ ys) zero x y are there here = cc
flow_there f (z ∷ xs) (w ∷ ys) (suc place) x y are there here = flow_there f xs ys place x y (cc) there here

pub ruleset flow_rules = (flow_within, flow_there)

pub ruleset class_rules = (class_walks, after_both, heads_both, append_assoc)

pub ruleset line_rules = (flat_map-append, append_assoc)

pub ruleset bind_rules = (bind_none, bind_past, bind_within)

pub ruleset joining = (after_both, heads_both, append_assoc, append-nil)

pub ruleset walk_rules = (steps-Assign, steps-Add, steps-Del, steps-Send, steps-Output, steps-If, steps-While, steps-For, steps-Call, steps-Await, steps-Label, steps-Pass, item_walks, branch_walks, alt_walks, after_both, heads_both, append_assoc, append-nil)
