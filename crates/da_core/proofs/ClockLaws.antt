-- A process whose clock is set back to 0 stands for the same worlds with that clock: what it keeps of its histories has no times.
use Rattle.std.proofs.Common.{◌≡◌, refl, ◌∙◌, ap, ◌<◌, List, [], ◌∷◌, map, arith}
use Rattle.std.specs.Prelude.{◌^◌}
use Rattle.std.specs.List.{filter_map}
use Rattle.da_values.specs.Order.{row_cmp}
use Rattle.da_values.specs.Sets.{canon}
use Rattle.da_lang.specs.declared.program.Class.{Class}
use Rattle.da_lang.specs.declared.program.Program.{Program}
use Rattle.da_lang.specs.declared.query.LivePattern.{LivePattern}
use Rattle.da_lang.specs.declared.query.Node.{Node}
use Rattle.da_lang.specs.declared.query.Pattern.{Pattern}
use Rattle.da_lang.specs.declared.query.Source.{Source}
use Rattle.da_lang.specs.declared.query.Source.TheVariants as source
use Rattle.da_lang.specs.Live.{live_rows}
use Rattle.da_lang.specs.Matching.{Candidate, Element, Message, matched_candidate}
use Rattle.da_lang.specs.Queries.{candidates}
use Rattle.da_lang.specs.World.{Data, World, Phase, New, Waiting, Ended, Faulted}
use Rattle.da_machine.specs.declared.code.Code.{Code}
use Rattle.da_machine.specs.declared.machine.Machine.{Machine}
use Rattle.da_core.specs.declared.process.Core.{Core}
use Rattle.da_core.specs.Clocks.{at_zero, back_to_zero, without_clock}
use Rattle.da_core.specs.StandsFor.{IsAt, IsReady, StandsFor, program_of}
use Rattle.da_core.proofs.LiveLaws.{rows_by_lives}
use Rattle.delta_rules.specs.Keeping.{all_live, all_rows}
use Rattle.query_plan.specs.PlainNodes.{PlainNodes}
use Rattle.query_plan.specs.PlanLive.{plan_live}
use Rattle.query_plan.proofs.SameRows.{filter_map_same}

module _ (d : Data) where
  -- what a live pattern goes through, and what it matches

  candidates_zero : (s : Source) → candidates d s ≡ candidates (at_zero d) s
  candidates_zero source.Received = refl
  candidates_zero source.Sent = refl
  candidates_zero (source.Slot s) = refl

  match_zero : (message peer : Pattern) (c : Candidate) → matched_candidate d message peer c [] ≡ matched_candidate (at_zero d) message peer c []
  match_zero message peer (Element x) = refl
  match_zero message peer (Message x p) = refl

  lives_zero : (p : LivePattern) → live_rows p d ≡ live_rows p (at_zero d)
  lives_zero p =
      ap (canon row_cmp)
      (filter_map_same (λ c. matched_candidate d p.message p.peer c []) (λ c. matched_candidate (at_zero d) p.message p.peer c []) (match_zero p.message p.peer) (candidates d p.source)
      ∙ ap (filter_map (λ c. matched_candidate (at_zero d) p.message p.peer c [])) (candidates_zero p.source))

  rows_zero : (nodes : List Node) → PlainNodes nodes → all_rows d nodes ≡ all_rows (at_zero d) nodes
  rows_zero nodes plain = rows_by_lives d (at_zero d) refl refl nodes plain (λ p has. lives_zero p)

  all_zero : (nodes : List Node) → all_live d nodes ≡ all_live (at_zero d) nodes
  all_zero nodes = each (plan_live nodes)
    where
      each : (ps : List LivePattern) → map (λ p. live_rows p d) ps ≡ map (λ p. live_rows p (at_zero d)) ps
      each [] = refl
      each (p ∷ ps) = ap (λ rows. rows ∷ map (λ q. live_rows q d) ps) (lives_zero p) ∙ ap (λ others. live_rows p (at_zero d) ∷ others) (each ps)

-- where a machine stands is no matter of the clock
at_place : (p : Program) (class : Class) (code : Code) (m : Machine) (w : World) (phase : Phase) → IsAt p class code m w phase → IsAt p class code m (without_clock w) phase
at_place p class code m w New at = at
at_place p class code m w Waiting at = at
at_place p class code m w Ended at = tt
at_place p class code m w Faulted at = tt

pub stands_at_zero : (core : Core) (w : World) → StandsFor core w → StandsFor (back_to_zero core) (without_clock w)
stands_at_zero core w stands = record {
  unspent = stands.unspent;
  compiled = stands.compiled;
  class = stands.class;
  code = stands.code;
  code_is = stands.code_is;
  knows = record {
    me = stands.knows.me;
    is_class = stands.knows.is_class;
    size = stands.knows.size;
    slots = stands.knows.slots;
    sent = stands.knows.sent;
    received = stands.knows.received;
    clock = let small : 0 < 2 ^ 63 = omega arith in small;
  };
  tasks = stands.tasks;
  stands = record {
    plan = stands.stands.plan;
    clock = refl;
    stored = stands.stands.stored;
    keeps = record {
      me = stands.stands.keeps.me;
      slots = stands.stands.keeps.slots;
      values = stands.stands.keeps.values;
      rows = stands.stands.keeps.rows ∙ rows_zero w.data' core.known.stored.now.plan.nodes stands.stands.stored.plain;
      live = stands.stands.keeps.live ∙ all_zero w.data' core.known.stored.now.plan.nodes;
    };
    laid = stands.stands.laid;
    held = stands.stands.held;
  };
  no_actions = stands.no_actions;
  place = stands.place;
  at = at_place (program_of core) stands.class stands.code.code core.machine w w.phase stands.at;
  no_values = stands.no_values;
}

-- it may be asked as it might before
pub ready_at_zero : (core : Core) → IsReady core → IsReady (back_to_zero core)
ready_at_zero core ready unspent = let (w, stands) = ready unspent in (without_clock w, stands_at_zero core w stands)
