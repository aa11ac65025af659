-- A message that is not read any more changes no rows of the nodes of the plan, and no live rows.
use Rattle.std.specs.Prelude.{◌≡◌, ℕ, true, List, Option, Some, None, refl}
use Rattle.std.proofs.Common.{ap, sym, ◌∙◌}
use Rattle.da_values.specs.declared.val.Val.{Val}
use Rattle.da_values.specs.Sets.{Has}
use Rattle.da_lang.specs.declared.query.LivePattern.{LivePattern}
use Rattle.da_lang.specs.declared.query.Node.{Node}
use Rattle.da_lang.specs.declared.query.RGen.{RGen}
use Rattle.da_lang.specs.declared.query.Source.{Source}
use Rattle.da_lang.specs.declared.query.Source.TheVariants as source
use Rattle.da_lang.specs.Caught.{caught_entry, with_caught}
use Rattle.da_lang.specs.Live.{is_history, live_gen, live_rows}
use Rattle.da_lang.specs.Matching.{Row}
use Rattle.da_lang.specs.Steps.{received_at}
use Rattle.da_lang.specs.Turns.{sent_at}
use Rattle.da_lang.specs.World.{Data}
use Rattle.da_lang.proofs.CaughtLaws.{live_gives, live_rows-received, live_rows-sent, live_rows-others_sent, live_rows-others_received}
use Rattle.history_live.specs.Reading.{Matches}
use Rattle.query_plan.specs.Nodes.{node_rows}
use Rattle.query_plan.specs.PlainNodes.{PlainNodes}
use Rattle.query_plan.specs.PlanLive.{node_gens, plan_live}
use Rattle.query_plan.proofs.PlanLiveLaws.{live_there, of_live}
use Rattle.query_plan.proofs.SameRows.{NoneCatch, rows_uncaught_received, rows_uncaught_sent}

module _ (nodes : List Node) (x : Val) (p time : ℕ) (d : Data) where
  -- no live pattern of the history reads the entry
  abbrev pub Unread : Source → Type 0
  Unread history = Matches (plan_live nodes) history x p d → ⊥

  none_catch : (history : Source) → is_history history ≡ true → Unread history → NoneCatch x p time d history nodes
  none_catch history over unread g h same = go (caught_entry d.me g.message g.peer x p) refl
    where
      go : (o : Option Row) → caught_entry d.me g.message g.peer x p ≡ o → caught_entry d.me g.message g.peer x p ≡ None
      go None e = e
      go (Some live) e = absurd (unread (live_gen g, live_there nodes g h (ap is_history same ∙ over), (same, (live, live_gives d g x p ∙ e))))

  -- The rows of plain nodes stay.
  pub rows_unread_received : PlainNodes nodes → Unread source.Received → (i : ℕ) → node_rows (received_at x p time d) nodes i ≡ node_rows d nodes i
  rows_unread_received plain unread i = rows_uncaught_received x p time d nodes plain (none_catch source.Received refl unread) i

  pub rows_unread_sent : PlainNodes nodes → Unread source.Sent → (i : ℕ) → node_rows (sent_at x p time d) nodes i ≡ node_rows d nodes i
  rows_unread_sent plain unread i = rows_uncaught_sent x p time d nodes plain (none_catch source.Sent refl unread) i

  -- The live rows stay.
  pub live_unread_received : Unread source.Received → (live : LivePattern) → Has (plan_live nodes) live → live_rows live (received_at x p time d) ≡ live_rows live d
  live_unread_received unread live there =
      let (g, among, over, same) = of_live nodes live there in
      ap (λ z. live_rows z (received_at x p time d)) same ∙ stays g among g.source refl over ∙ ap (λ z. live_rows z d) (sym same)
    where
      stays : (g : RGen) → Has (node_gens nodes) g → (s : Source) → g.source ≡ s → is_history s ≡ true → live_rows (live_gen g) (received_at x p time d) ≡ live_rows (live_gen g) d
      stays g among source.Received is over = live_rows-received g x p time d is ∙ ap (with_caught (live_rows (live_gen g) d)) (none_catch source.Received refl unread g among is)
      stays g among source.Sent is over = live_rows-others_received g x p time d is
      stays g among (source.Slot s) is over = absurd (cc)

  pub live_unread_sent : Unread source.Sent → (live : LivePattern) → Has (plan_live nodes) live → live_rows live (sent_at x p time d) ≡ live_rows live d
  live_unread_sent unread live there =
      let (g, among, over, same) = of_live nodes live there in
      ap (λ z. live_rows z (sent_at x p time d)) same ∙ stays g among g.source refl over ∙ ap (λ z. live_rows z d) (sym same)
    where
      stays : (g : RGen) → Has (node_gens nodes) g → (s : Source) → g.source ≡ s → is_history s ≡ true → live_rows (live_gen g) (sent_at x p time d) ≡ live_rows (live_gen g) d
      stays g among source.Received is over = live_rows-others_sent g x p time d is
      stays g among source.Sent is over = live_rows-sent g x p time d is ∙ ap (with_caught (live_rows (live_gen g) d)) (none_catch source.Sent refl unread g among is)
      stays g among (source.Slot s) is over = absurd (cc)
