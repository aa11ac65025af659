-- The processes for which what code keeps stands. These laws alone look into what it keeps.
use Rattle.std.proofs.Common.{◌≡◌, ℕ, List, [], length, map, Some, refl, sym, ap, ◌∙◌, subst}
use Rattle.std.specs.Prelude.{Bool, true, false, max, slice_get, sum, Option, None}
use Rattle.std.proofs.lemmas.Simd.{map-map}
use Rattle.da_values.specs.declared.val.Val.{Val}
use Rattle.da_values.specs.Sets.{Has}
use Rattle.da_lang.specs.declared.event.Action.{Action}
use Rattle.da_lang.specs.declared.program.Class.{Class}
use Rattle.da_lang.specs.declared.program.Program.{Program}
use Rattle.da_lang.specs.declared.query.Node.{Node}
use Rattle.da_lang.specs.declared.query.Node.TheVariants as node
use Rattle.da_lang.specs.declared.ty.Ty.{Ty}
use Rattle.da_lang.specs.declared.ty.Ty.TheVariants as t
use Rattle.da_lang.specs.Live.{live_rows}
use Rattle.da_lang.specs.Steps.{received_at}
use Rattle.da_lang.specs.Types.{element_in, is_set}
use Rattle.da_lang.specs.Turns.{later, sent_at, with_element, without_element}
use Rattle.da_lang.specs.World.{Data, class_of, first_value, opening_data, put_slot}
use Rattle.da_types.proofs.sound.AcceptedLaws.{is_typed}
use Rattle.da_types.proofs.totality.Worlds.{class_has}
use Rattle.da_machine.specs.Conditions.{SomeProcess, TakesElement}
use Rattle.query_plan.specs.declared.plan.Plan.{Plan}
use Rattle.query_plan.specs.Nodes.{IsPlan, node_rows}
use Rattle.query_plan.specs.PlainNodes.{PlainNodes}
use Rattle.query_plan.specs.PlanLive.{plan_live}
use Rattle.query_plan.specs.PlanTerms.{node_names}
use Rattle.query_plan.specs.Questions.{norm_class}
use Rattle.query_plan.specs.Seen.{IsStored}
use Rattle.query_plan.specs.Told.{has_row}
use Rattle.query_plan.specs.Updates.{Assigns, Joins, Leaves, Receives, Sends, Update, after}
use Rattle.query_plan.proofs.Redirected.{names_redirected}
use Rattle.quant_norm.proofs.ClassLaw.{class_law, class_root}
use Rattle.quant_norm.proofs.PlainLaw.{class_plain}
use Rattle.quant_norm.proofs.SetSlotLaw.{typed_spares}
use Rattle.row_pool.specs.Cells.{Cells}
use Rattle.row_pool.specs.Pool.{HoldsAll}
use Rattle.answer_index.specs.Rows.{row_in}
use Rattle.delta_rules.specs.declared.answers.Answers.{Answers}
use Rattle.delta_rules.specs.Counting.{NoneNames}
use Rattle.delta_rules.specs.Holding.{ids_of_answers}
use Rattle.delta_rules.specs.Keeping.{Keeps, Sees, all_live}
use Rattle.delta_rules.specs.Laid.{IsLaid}
use Rattle.da_core.specs.declared.known.Known.{Known}
use Rattle.da_core.specs.Known.{Becomes, Each, Knows, KnowsSome}

module _ (known : Known) (p : Program) (class : Class) (d : Data) (knows : Knows known p class d) where
  -- the number of the process, its clock, its slots, and the plan of its class
  pub me_is : d.me ≡ known.answers.me
  me_is = sym knows.keeps.me

  pub slots_are : d.slots ≡ row_in known.pool known.answers.slots
  slots_are = sym knows.keeps.slots

  pub clock_is : d.clock ≡ known.clock
  clock_is = knows.clock

  pub plan_is : known.plan.now ≡ norm_class class
  plan_is = knows.plan

  -- whatever actions are kept beside
  pub with_actions : (actions : List Action) → Knows (record known { actions = actions }) p class d
  with_actions actions = record { plan = knows.plan; clock = knows.clock; stored = knows.stored; keeps = knows.keeps; laid = knows.laid; held = knows.held }

  -- the nodes of its plan are seen by what is stored
  pub sees : Sees known.answers known.pool known.stored.now known.plan.now.nodes d
  sees = record { stored = knows.stored; keeps = knows.keeps }

  -- what is told of its answers by any nodes and any process that they see, is so of its own
  pub told_of : (holds : List Node → Data → Type 0) → ((nodes : List Node) (e : Data) → Sees known.answers known.pool known.stored.now nodes e → holds nodes e) → holds (norm_class class).nodes d
  told_of holds told = subst (λ (x : Plan). holds x.nodes d) knows.plan (told known.plan.now.nodes d sees)

  pub told_by_plan : (holds : Data → Type 0) → ((e : Data) → Sees known.answers known.pool known.stored.now known.plan.now.nodes e → holds e) → holds d
  told_by_plan holds told = told d sees

-- THE PLAN

-- the plan of a class
pub lower : (plan : Plan) (class : Class) → plan ≡ norm_class class → IsPlan plan.nodes
lower plan class is = subst (λ (x : Plan). IsPlan x.nodes) (sym is) (class_law class).lower

pub plain : (plan : Plan) (class : Class) → plan ≡ norm_class class → PlainNodes plan.nodes
plain plan class is = subst (λ (x : Plan). PlainNodes x.nodes) (sym is) (class_plain class)

pub rooted : (plan : Plan) (class : Class) → plan ≡ norm_class class → slice_get plan.nodes 0 ≡ Some node.Root
rooted plan class is = subst (λ (x : Plan). slice_get x.nodes 0 ≡ Some node.Root) (sym is) (class_root class)

-- the one that a process stores
pub lower_plan : (known : Known) → KnowsSome known → IsPlan known.stored.now.plan.nodes
lower_plan known (p, class, d, knows) = knows.stored.plan

pub plain_nodes : (known : Known) → KnowsSome known → PlainNodes known.stored.now.plan.nodes
plain_nodes known (p, class, d, knows) = knows.stored.plain

pub laid_out : (known : Known) → KnowsSome known → IsLaid known.answers known.pool known.stored.now.plan.nodes
laid_out known (p, class, d, knows) = knows.laid

pub all_held : (known : Known) → KnowsSome known → HoldsAll known.pool (ids_of_answers known.answers)
all_held known (p, class, d, knows) = knows.held

-- A slot takes an element of some process for which it stands.
pub takes_some : (known : Known) (s : ℕ) (v : Val) → SomeProcess (Knows known) (λ p class d. TakesElement p class s v) → KnowsSome known
takes_some known s v (p, class, d, knows, is, takes) = (p, class, d, knows)

abbrev has_element : Option Ty → Bool
has_element o = elim o [ Some element ↦ true | None ↦ false ]

set_is : (ty : Ty) → is_set (t.Set ty) ≡ true
set_is ty = ap has_element (ap element_in (t.outs-Set ty))

-- No stored node names such a slot, since none of the plan does.
pub spares_slot : (known : Known) (s : ℕ) (v : Val) → SomeProcess (Knows known) (λ p class d. TakesElement p class s v) → NoneNames s known.stored.now.plan.nodes
spares_slot known s v (p, class, d, knows, is, takes) m among =
    let (f, n, there, same) = knows.stored.same m among in
    ap (node_names s) same
    ∙ names_redirected s f n
    ∙ typed_spares p class (is_typed p is.accepted) (class_has p d.me class is.shaped.is_class) s (t.Set takes.ty, takes.slot, set_is takes.ty) n (subst (λ (x : Plan). Has x.nodes n) knows.plan there)

-- UPDATES

-- the answers and their pool are now those after an update
module _ (known : Known) (new : Answers) (pool : Cells) (clock : ℕ) (actions : List Action) (laid : IsLaid new pool known.stored.now.plan.nodes) (held : HoldsAll pool (ids_of_answers new)) where
  abbrev now : Known
  now = record known { answers = new; pool = pool; clock = clock; actions = actions }

  abbrev PassesOn : Update → Type 0
  PassesOn u = (d : Data) → Keeps known.answers known.pool known.stored.now.plan.nodes d → Keeps new pool known.stored.now.plan.nodes (after u d)

  known_after : (p : Program) (class : Class) (d e : Data) → Knows known p class d → e.clock ≡ clock → Keeps new pool known.stored.now.plan.nodes e → Knows now p class e
  known_after p class d e knows late keeps = record { plan = knows.plan; clock = late; stored = knows.stored; keeps = keeps; laid = laid; held = held }

  pub known_received : (m : Val) (from time : ℕ) → clock ≡ later (max known.clock time)
      → ((d : Data) (at : ℕ) → Keeps known.answers known.pool known.stored.now.plan.nodes d → Keeps new pool known.stored.now.plan.nodes (after (Receives m from at) d)) → Becomes known now (received_at m from time)
  known_received m from time is passes p class d knows =
      known_after p class d (received_at m from time d) knows (ap (λ c. later (max c time)) knows.clock ∙ sym is) (passes d time knows.keeps)

  pub known_sent : (m : Val) (to : ℕ) → clock ≡ later known.clock
      → ((d : Data) (at : ℕ) → Keeps known.answers known.pool known.stored.now.plan.nodes d → Keeps new pool known.stored.now.plan.nodes (after (Sends m to at) d)) → Becomes known now (λ d. sent_at m to (later d.clock) d)
  known_sent m to is passes p class d knows =
      known_after p class d (sent_at m to (later d.clock) d) knows (ap later knows.clock ∙ sym is) (passes d (later d.clock) knows.keeps)

  module _ (still : clock ≡ known.clock) where
    pub known_given : (s : ℕ) (v : Val) → PassesOn (Assigns s v) → Becomes known now (λ d. put_slot d s v)
    known_given s v passes p class d knows = known_after p class d (put_slot d s v) knows (knows.clock ∙ sym still) (passes d knows.keeps)

    pub known_added : (s : ℕ) (v : Val) → ((d : Data) (time : ℕ) → Keeps known.answers known.pool known.stored.now.plan.nodes d → Keeps new pool known.stored.now.plan.nodes (after (Joins s v) d)) → Becomes known now (with_element s v)
    known_added s v passes p class d knows = known_after p class d (with_element s v d) knows (knows.clock ∙ sym still) (passes d 0 knows.keeps)

    pub known_taken : (s : ℕ) (v : Val) → PassesOn (Leaves s v) → Becomes known now (without_element s v)
    known_taken s v passes p class d knows = known_after p class d (without_element s v d) knows (knows.clock ∙ sym still) (passes d knows.keeps)

-- THE OPENING

-- a process before its first event
pub opens : (known : Known) (p : Program) (me : ℕ) (class : Class) → class_of p me ≡ Some class → known.plan.now ≡ norm_class class → IsStored known.plan.now.nodes known.stored.now → known.clock ≡ 0
    → ((d : Data) → d.me ≡ me → d.slots ≡ map (first_value me) class.slots → d.sent ≡ [] → d.received ≡ [] → Keeps known.answers known.pool known.stored.now.plan.nodes d)
    → IsLaid known.answers known.pool known.stored.now.plan.nodes → HoldsAll known.pool (ids_of_answers known.answers) → Knows known p class (opening_data p me)
opens known p me class classed plan stored early keeps laid held = record {
  plan = plan;
  clock = sym early;
  stored = stored;
  keeps = keeps (opening_data p me) refl (rw classed refl) refl refl;
  laid = laid;
  held = held;
}

-- THE ROWS THAT ARE KEPT

-- as many as the live patterns of the plan match in the whole histories
pub kept_is : (known : Known) (n : ℕ) → ((pool : Cells) (nodes : List Node) (d : Data) → Keeps known.answers pool nodes d → n ≡ sum (map length (all_live d nodes)))
    → Each known (λ p class d. n ≡ sum (map (λ x. length (live_rows x d)) (plan_live (norm_class class).nodes)))
kept_is known n told p class d knows =
    told known.pool known.stored.now.plan.nodes d knows.keeps
    ∙ ap sum (map-map length (λ x. live_rows x d) (plan_live known.stored.now.plan.nodes))
    ∙ ap (λ ps. sum (map (λ x. length (live_rows x d)) ps)) (knows.stored.live ∙ ap (λ (x : Plan). plan_live x.nodes) knows.plan)

-- whether a node of the plan has a row
pub flag_is : (known : Known) (flag : ℕ) (b : Bool) → ((pool : Cells) (nodes : List Node) (d : Data) → Sees known.answers pool known.stored.now nodes d → b ≡ has_row (node_rows d nodes flag))
    → Each known (λ p class d. b ≡ has_row (node_rows d (norm_class class).nodes flag))
flag_is known flag b told p class d knows = told_of known p class d knows (λ nodes e. b ≡ has_row (node_rows e nodes flag)) (told known.pool)
