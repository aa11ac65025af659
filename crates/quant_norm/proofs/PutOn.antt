-- Functions that end in a call which puts queries and flags into a plan: what the call is to put is what the function is
-- to put.
use Rattle.std.specs.Prelude.{◌≡◌, ◌+◌, ℕ, List, [], ◌∷◌, flat_map, Option, Some, None, unwrap_or, Result, Ok, Err, refl}
use Rattle.std.proofs.Common.{ap, sym, ◌∙◌}
use Rattle.da_lang.specs.declared.program.Alt.{Alt}
use Rattle.da_lang.specs.declared.program.BindArg.{BindArg}
use Rattle.da_lang.specs.declared.program.Item.{Item}
use Rattle.da_lang.specs.declared.program.ItemKind.{ItemKind}
use Rattle.da_lang.specs.declared.program.ItemKind.TheVariants as kind
use Rattle.da_lang.specs.declared.program.ItemKind.TheViews.{out-Alt, out-RBranch}
use Rattle.da_lang.specs.declared.program.RBranch.{RBranch}
use Rattle.da_lang.specs.declared.program.RExpr.{RExpr}
use Rattle.da_lang.specs.declared.query.Cond.{Cond}
use Rattle.da_lang.specs.declared.query.Query.{Query}
use Rattle.query_plan.specs.declared.plan.Plan.{Plan}
use Rattle.query_plan.specs.Questions.{Awaited, root, with_flag, with_asked, asks, cond_asks, item_met}
use Rattle.quant_norm.specs.declared.limit.Halt.{Halt}
use Rattle.quant_norm.specs.Making.{Over, Puts, alt_met, args_ask, awaited_met, block_met, branch_met, kind_met, Made, made_with}
use Rattle.quant_norm.proofs.FullPlans.{over_put, over_rest, made_grows}
use Rattle.quant_norm.proofs.FullNodes.{more_over}
use Rattle.quant_norm.proofs.GrowthLaws.{norm_grows}
use Rattle.quant_norm.proofs.QuerySteps.{assign_put, add_put, del_put, output_put, send_put, if_put, while_put, for_put, call_put, await_put, branch_put, alt_put, asked_then, awaited_then}

pub puts_as : {A : Type 0} (whole rest : Made) (made : A → Made) (r : Result A Halt) → whole ≡ rest → Puts rest made r → Puts whole made r
puts_as whole rest made (Ok x) e m = e ∙ m
puts_as whole rest made (Err h) e m = λ full. over_put whole rest e (m full)

-- so many queries
pub counted : {A : Type 0} (n count : ℕ) (plan : Plan) (qs : List Query) (made : A → Made) (r : Result A Halt) → count ≡ n → Puts (with_asked count qs plan) made r → Puts (with_asked n qs plan) made r
counted n count plan qs made r e = puts_as (with_asked n qs plan) (with_asked count qs plan) made r (ap (λ m. with_asked m qs plan) (sym e))

module _ {A : Type 0} (k : ItemKind) where
  pub assign_ends : (s : ℕ) (e read : RExpr) (plan : Plan) (qs : List Query) (made : A → Made) (r : Result A Halt) → k ≡ kind.Assign s e → read ≡ e → Puts (with_asked (asks read) qs plan) made r → Puts (made_with (kind_met k) (plan, qs)) made r
  assign_ends s e read plan qs made r form same = puts_as (made_with (kind_met k) (plan, qs)) (with_asked (asks read) qs plan) made r (assign_put k s e (asks read) plan qs (with_asked (asks read) qs plan) form (ap asks same) refl)

  pub add_ends : (s : ℕ) (e read : RExpr) (plan : Plan) (qs : List Query) (made : A → Made) (r : Result A Halt) → k ≡ kind.Add s e → read ≡ e → Puts (with_asked (asks read) qs plan) made r → Puts (made_with (kind_met k) (plan, qs)) made r
  add_ends s e read plan qs made r form same = puts_as (made_with (kind_met k) (plan, qs)) (with_asked (asks read) qs plan) made r (add_put k s e (asks read) plan qs (with_asked (asks read) qs plan) form (ap asks same) refl)

  pub del_ends : (s : ℕ) (e read : RExpr) (plan : Plan) (qs : List Query) (made : A → Made) (r : Result A Halt) → k ≡ kind.Del s e → read ≡ e → Puts (with_asked (asks read) qs plan) made r → Puts (made_with (kind_met k) (plan, qs)) made r
  del_ends s e read plan qs made r form same = puts_as (made_with (kind_met k) (plan, qs)) (with_asked (asks read) qs plan) made r (del_put k s e (asks read) plan qs (with_asked (asks read) qs plan) form (ap asks same) refl)

  pub output_ends : (e read : RExpr) (plan : Plan) (qs : List Query) (made : A → Made) (r : Result A Halt) → k ≡ kind.Output e → read ≡ e → Puts (with_asked (asks read) qs plan) made r → Puts (made_with (kind_met k) (plan, qs)) made r
  output_ends e read plan qs made r form same = puts_as (made_with (kind_met k) (plan, qs)) (with_asked (asks read) qs plan) made r (output_put k e (asks read) plan qs (with_asked (asks read) qs plan) form (ap asks same) refl)

  pub send_ends : (m e m_read e_read : RExpr) (plan : Plan) (qs : List Query) (made : A → Made) (r : Result A Halt) → k ≡ kind.Send m e → m_read ≡ m → e_read ≡ e → Puts (with_asked (asks m_read + asks e_read) qs plan) made r → Puts (made_with (kind_met k) (plan, qs)) made r
  send_ends m e m_read e_read plan qs made r form rm re =
      puts_as (made_with (kind_met k) (plan, qs)) (with_asked (asks m_read + asks e_read) qs plan) made r
      (send_put k m e (asks m_read + asks e_read) plan qs (with_asked (asks m_read + asks e_read) qs plan) form (ap (λ z. asks z + asks e_read) rm ∙ ap (λ z. asks m + asks z) re) refl)

  pub if_ends : (branches branches_read : List RBranch) (otherwise otherwise_read : List Item) (plan : Plan) (qs : List Query) (middle : Made) (made : A → Made) (r : Result A Halt) → k ≡ kind.If branches otherwise → branches_read ≡ branches → otherwise_read ≡ otherwise → made_with (flat_map branch_met branches_read) (plan, qs) ≡ middle
      → Puts (made_with (flat_map item_met otherwise_read) middle) made r → Puts (made_with (kind_met k) (plan, qs)) made r
  if_ends branches branches_read otherwise otherwise_read plan qs middle made r form rb ro one =
      let end : Made = made_with (flat_map item_met otherwise_read) middle in
      puts_as (made_with (kind_met k) (plan, qs)) end made r (if_put k branches branches_read otherwise otherwise_read plan qs middle end form rb ro one refl)

  pub while_ends : (e e_read : RExpr) (body read : List Item) (plan : Plan) (qs : List Query) (made : A → Made) (r : Result A Halt) → k ≡ kind.While e body → e_read ≡ e → read ≡ body → Puts (made_with (block_met e_read read) (plan, qs)) made r → Puts (made_with (kind_met k) (plan, qs)) made r
  while_ends e e_read body read plan qs made r form re rb =
      let middle : Made = with_asked (asks e_read) qs plan in
      let end : Made = made_with (flat_map item_met read) middle in
      puts_as (made_with (kind_met k) (plan, qs)) end made r (while_put k e body read (asks e_read) plan qs middle end form rb (ap asks re) refl refl)

  pub for_ends : (s : ℕ) (e e_read : RExpr) (body read : List Item) (plan : Plan) (qs : List Query) (made : A → Made) (r : Result A Halt) → k ≡ kind.For s e body → e_read ≡ e → read ≡ body → Puts (made_with (block_met e_read read) (plan, qs)) made r → Puts (made_with (kind_met k) (plan, qs)) made r
  for_ends s e e_read body read plan qs made r form re rb =
      let middle : Made = with_asked (asks e_read) qs plan in
      let end : Made = made_with (flat_map item_met read) middle in
      puts_as (made_with (kind_met k) (plan, qs)) end made r (for_put k s e body read (asks e_read) plan qs middle end form rb (ap asks re) refl refl)

  pub call_ends : (args args_read : List BindArg) (body read : List Item) (plan : Plan) (qs : List Query) (middle : Made) (made : A → Made) (r : Result A Halt) → k ≡ kind.Call args body → args_read ≡ args → read ≡ body → with_asked (args_ask args_read) qs plan ≡ middle
      → Puts (made_with (flat_map item_met read) middle) made r → Puts (made_with (kind_met k) (plan, qs)) made r
  call_ends args args_read body read plan qs middle made r form ra rb put =
      let end : Made = made_with (flat_map item_met read) middle in
      puts_as (made_with (kind_met k) (plan, qs)) end made r (call_put k args args_read body read (args_ask args_read) plan qs middle end form ra rb refl put refl)

  pub await_ends : (alts alts_read : List Alt) (timeout : Option (List Item)) (body read : List Item) (label : Option ℕ) (plan : Plan) (qs : List Query) (middle : Made) (made : A → Made) (r : Result A Halt) → k ≡ kind.Await alts timeout label → alts_read ≡ alts → timeout ≡ Some body → read ≡ body
      → made_with (flat_map alt_met alts_read) (plan, qs) ≡ middle → Puts (made_with (flat_map item_met read) middle) made r → Puts (made_with (kind_met k) (plan, qs)) made r
  await_ends alts alts_read timeout body read label plan qs middle made r form ra some rb one =
      let end : Made = made_with (flat_map item_met read) middle in
      puts_as (made_with (kind_met k) (plan, qs)) end made r (await_put k alts alts_read timeout read label plan qs middle end form ra (ap (λ t. unwrap_or t []) some ∙ sym rb) one refl)

pub await_alone : (k : ItemKind) (alts read : List Alt) (timeout : Option (List Item)) (label : Option ℕ) (plan : Plan) (qs : List Query) (end : Made) → k ≡ kind.Await alts timeout label → read ≡ alts → timeout ≡ None → made_with (flat_map alt_met read) (plan, qs) ≡ end → made_with (kind_met k) (plan, qs) ≡ end
await_alone k alts read timeout label plan qs end form same none one = await_put k alts read timeout [] label plan qs end end form same (ap (λ t. unwrap_or t []) none) one refl

-- a block after an expression
pub block_ends : {A : Type 0} (e : RExpr) (body : List Item) (plan : Plan) (qs : List Query) (middle : Made) (made : A → Made) (r : Result A Halt) → with_asked (asks e) qs plan ≡ middle → Puts (made_with (flat_map item_met body) middle) made r → Puts (made_with (block_met e body) (plan, qs)) made r
block_ends e body plan qs middle made r put = puts_as (made_with (block_met e body) (plan, qs)) (made_with (flat_map item_met body) middle) made r (ap (made_with (flat_map item_met body)) put)

pub block_over : (e : RExpr) (body : List Item) (plan : Plan) (qs : List Query) → Over (with_asked (asks e) qs plan).0.nodes → Over (made_with (block_met e body) (plan, qs)).0.nodes
block_over e body plan qs over =
    let middle : Made = with_asked (asks e) qs plan in
    more_over middle.0.nodes (made_with (flat_map item_met body) middle).0.nodes (made_grows (flat_map item_met body) middle) over

pub branch_ends : {A : Type 0} (b : RBranch) (e : RExpr) (body : List Item) (plan : Plan) (qs : List Query) (made : A → Made) (r : Result A Halt) → e ≡ (out-RBranch b).cond → body ≡ (out-RBranch b).body → Puts (made_with (block_met e body) (plan, qs)) made r → Puts (made_with (branch_met b) (plan, qs)) made r
branch_ends b e body plan qs made r re rb =
    let middle : Made = with_asked (asks e) qs plan in
    let end : Made = made_with (flat_map item_met body) middle in
    puts_as (made_with (branch_met b) (plan, qs)) end made r (branch_put b body (asks e) plan qs middle end rb (ap asks re) refl refl)

-- the condition of an alternative, and its block
pub awaited_made : (b : Cond) (count : ℕ) (plan more flagged : Plan) (qs rest : List Query) → count ≡ cond_asks b → ◌≡◌ {A = Made} (with_asked count qs plan) (more, rest) → with_flag more b ≡ flagged → ◌≡◌ {A = Made} (made_with (awaited_met b) (plan, qs)) (flagged, rest)
awaited_made b count plan more flagged qs rest n put flag = asked_then (awaited_met b) (Awaited b ∷ []) (cond_asks b) count plan qs (more, rest) (flagged, rest) refl n put (awaited_then b [] more flagged rest (flagged, rest) flag refl)

pub awaited_over_flag : (b : Cond) (count : ℕ) (plan more : Plan) (qs rest : List Query) → count ≡ cond_asks b → ◌≡◌ {A = Made} (with_asked count qs plan) (more, rest) → Over (with_flag more b).nodes → Over (made_with (awaited_met b) (plan, qs)).0.nodes
awaited_over_flag b count plan more qs rest n put over = over_put (made_with (awaited_met b) (plan, qs)) (with_flag more b, rest) (awaited_made b count plan more (with_flag more b) qs rest n put refl) over

pub awaited_over_asked : (b : Cond) (count : ℕ) (plan : Plan) (qs : List Query) → count ≡ cond_asks b → Over (with_asked count qs plan).0.nodes → Over (made_with (awaited_met b) (plan, qs)).0.nodes
awaited_over_asked b count plan qs n over =
    let middle : Made = with_asked count qs plan in
    awaited_over_flag b count plan middle.0 qs middle.1 n refl (more_over middle.0.nodes (with_flag middle.0 b).nodes (norm_grows b root middle.0.nodes) over)

alt_as : (alt : Alt) (b : Cond) (body : List Item) (plan : Plan) (qs : List Query) → b ≡ (out-Alt alt).cond → body ≡ (out-Alt alt).body → made_with (alt_met alt) (plan, qs) ≡ made_with (flat_map item_met body) (made_with (awaited_met b) (plan, qs))
alt_as alt b body plan qs rc rb =
    let middle : Made = with_asked (cond_asks b) qs plan in
    let flagged : Plan = with_flag middle.0 b in
    alt_put alt body b (cond_asks b) plan middle.0 flagged qs middle.1 (made_with (flat_map item_met body) (flagged, middle.1)) rc rb (ap cond_asks rc) refl refl refl

pub alt_ends : {A : Type 0} (alt : Alt) (b : Cond) (body : List Item) (plan : Plan) (qs : List Query) (middle : Made) (made : A → Made) (r : Result A Halt) → b ≡ (out-Alt alt).cond → body ≡ (out-Alt alt).body → made_with (awaited_met b) (plan, qs) ≡ middle → Puts (made_with (flat_map item_met body) middle) made r
    → Puts (made_with (alt_met alt) (plan, qs)) made r
alt_ends alt b body plan qs middle made r rc rb e = puts_as (made_with (alt_met alt) (plan, qs)) (made_with (flat_map item_met body) middle) made r (alt_as alt b body plan qs rc rb ∙ ap (made_with (flat_map item_met body)) e)

pub alt_over : (alt : Alt) (b : Cond) (plan : Plan) (qs : List Query) → b ≡ (out-Alt alt).cond → Over (made_with (awaited_met b) (plan, qs)).0.nodes → Over (made_with (alt_met alt) (plan, qs)).0.nodes
alt_over alt b plan qs rc over =
    let middle : Made = made_with (awaited_met b) (plan, qs) in
    let body : List Item = (out-Alt alt).body in
    over_rest (made_with (alt_met alt) (plan, qs)) middle (made_with (flat_map item_met body) middle) (alt_as alt b body plan qs rc refl) (made_grows (flat_map item_met body) middle) over
