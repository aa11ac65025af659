-- In a class of a typed program an update changes the rows of those nodes alone that it touches.
use Rattle.std.specs.Prelude.{◌≡◌, ℕ, false, List, slice_get, Some}
use Rattle.std.proofs.Common.{subst}
use Rattle.da_values.specs.Sets.{Has}
use Rattle.da_values.proofs.Members.{each_from_all}
use Rattle.da_lang.specs.declared.program.Class.{Class}
use Rattle.da_lang.specs.declared.program.Program.{Program}
use Rattle.da_lang.specs.declared.query.Node.{Node}
use Rattle.da_lang.specs.Typing.{IsTyped}
use Rattle.da_lang.specs.World.{Data}
use Rattle.query_plan.specs.Nodes.{node_rows}
use Rattle.query_plan.specs.PlainNodes.{is_plain_node}
use Rattle.query_plan.specs.Questions.{norm_class}
use Rattle.query_plan.specs.Updates.{Update, Receives, Sends, Joins, Leaves, Assigns, after}
use Rattle.query_plan.specs.Work.{is_touched}
use Rattle.query_plan.proofs.PlanLiveLaws.{node_there}
use Rattle.query_plan.proofs.TouchedLaws.{untouched}
use Rattle.quant_norm.specs.SetSlots.{HasSetType, SparesSets}
use Rattle.quant_norm.proofs.ClassLaw.{class_law}
use Rattle.quant_norm.proofs.PlainLaw.{class_plain}
use Rattle.quant_norm.proofs.SetSlotLaw.{typed_spares}

module _ (p : Program) (class : Class) (typed : IsTyped p) (there : Has p.classes class) where
  -- elements join the sets of slots, and leave them
  abbrev pub MovesSets : Update → Type 0
  MovesSets (Receives m q time) = Unit {0}
  MovesSets (Sends m q time) = Unit {0}
  MovesSets (Joins s x) = HasSetType p class s
  MovesSets (Leaves s x) = HasSetType p class s
  MovesSets (Assigns s x) = Unit {0}

  abbrev nodes : List Node
  nodes = (norm_class class).nodes

  unnamed : SparesSets p class nodes
  unnamed = typed_spares p class typed there

  -- Where such an update does not touch a node of the plan of the class, it leaves its rows as they are.
  pub class_untouched : (u : Update) (d : Data) → MovesSets u → (i : ℕ) (n : Node) → slice_get nodes i ≡ Some n → is_touched u d (node_rows d nodes) (node_rows (after u d) nodes) n ≡ false → node_rows (after u d) nodes i ≡ node_rows d nodes i
  class_untouched u d sets i n at none =
      let among = node_there nodes i n at in
      untouched u d nodes (class_law class).lower i n at (each_from_all is_plain_node nodes n (class_plain class) among) none
      (λ s x e. unnamed s (subst MovesSets e sets) n among)
      (λ s x e. unnamed s (subst MovesSets e sets) n among)
