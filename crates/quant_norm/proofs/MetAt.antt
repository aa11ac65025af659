-- What is met in statements, one equation for each form, and the plan that is made with it.
use Rattle.std.specs.Prelude.{◌≡◌, ℕ, ◌+◌, List, [], ◌∷◌, ◌++◌, map, flat_map, sum, Option, Some, None, unwrap_or, refl}
use Rattle.std.specs.List.{sum_by}
use Rattle.std.proofs.Common.{ap, sym, ◌∙◌}
use Rattle.std.proofs.lemmas.List.Sums.{sum-map}
use Rattle.da_lang.specs.declared.program.Alt.{Alt}
use Rattle.da_lang.specs.declared.program.BindArg.{BindArg}
use Rattle.da_lang.specs.declared.program.Item.{Item}
use Rattle.da_lang.specs.declared.program.ItemKind.{ItemKind, roll-ItemKind}
use Rattle.da_lang.specs.declared.program.ItemKind.TheFolds.{map-ItemKind, fold-roll-ItemKind, fold_out-Alt, fold_out-Item, fold_out-RBranch}
use Rattle.da_lang.specs.declared.program.ItemKind.TheOpen.{ItemKind-F}
use Rattle.da_lang.specs.declared.program.ItemKind.TheVariants as kind
use Rattle.da_lang.specs.declared.program.ItemKind.TheViews.{out-Alt, out-Item, out-RBranch}
use Rattle.da_lang.specs.declared.program.RBranch.{RBranch}
use Rattle.da_lang.specs.declared.program.RExpr.{RExpr}
use Rattle.da_lang.specs.declared.query.Query.{Query}
use Rattle.query_plan.specs.declared.plan.Plan.{Plan}
use Rattle.query_plan.specs.Questions.{Met, Asked, Awaited, asks, cond_asks, joined, kind_met_step, alt_met_step, item_met_step, branch_met_step, item_met, with_asked, with_flag, with_all, with_met}
use Rattle.quant_norm.specs.Making.{kind_met, branch_met, alt_met, Made, made_with}

pub joined-map : {A : Type 0} (f : A → List Met) (xs : List A) → joined (map f xs) ≡ flat_map f xs
joined-map f [] = refl
joined-map f (x ∷ xs) = ap (λ z. f x ++ z) (joined-map f xs)

layer : (k : ItemKind-F ItemKind Alt Item RBranch) → kind_met (roll-ItemKind k) ≡ kind_met_step (map-ItemKind ItemKind Alt Item RBranch (List Met) (List Met) (List Met) (List Met) kind_met alt_met item_met branch_met k)
layer k = fold-roll-ItemKind (List Met) (List Met) (List Met) (List Met) kind_met_step alt_met_step item_met_step branch_met_step k

pub met-Assign : (s : ℕ) (e : RExpr) → kind_met (kind.Assign s e) ≡ Asked (asks e) ∷ []
met-Assign s e = ap kind_met (sym (kind.rolls-Assign s e)) ∙ layer (ItemKind-F.Assign s e)

pub met-Add : (s : ℕ) (e : RExpr) → kind_met (kind.Add s e) ≡ Asked (asks e) ∷ []
met-Add s e = ap kind_met (sym (kind.rolls-Add s e)) ∙ layer (ItemKind-F.Add s e)

pub met-Del : (s : ℕ) (e : RExpr) → kind_met (kind.Del s e) ≡ Asked (asks e) ∷ []
met-Del s e = ap kind_met (sym (kind.rolls-Del s e)) ∙ layer (ItemKind-F.Del s e)

pub met-Send : (m e : RExpr) → kind_met (kind.Send m e) ≡ Asked (asks m + asks e) ∷ []
met-Send m e = ap kind_met (sym (kind.rolls-Send m e)) ∙ layer (ItemKind-F.Send m e)

pub met-Output : (e : RExpr) → kind_met (kind.Output e) ≡ Asked (asks e) ∷ []
met-Output e = ap kind_met (sym (kind.rolls-Output e)) ∙ layer (ItemKind-F.Output e)

pub met-If : (branches : List RBranch) (otherwise : List Item) → kind_met (kind.If branches otherwise) ≡ flat_map branch_met branches ++ flat_map item_met otherwise
met-If branches otherwise =
    ap kind_met (sym (kind.rolls-If branches otherwise))
    ∙ layer (ItemKind-F.If branches otherwise)
    ∙ ap (λ z. z ++ joined (map item_met otherwise)) (joined-map branch_met branches)
    ∙ ap (λ z. flat_map branch_met branches ++ z) (joined-map item_met otherwise)

pub met-While : (e : RExpr) (body : List Item) → kind_met (kind.While e body) ≡ Asked (asks e) ∷ flat_map item_met body
met-While e body = ap kind_met (sym (kind.rolls-While e body)) ∙ layer (ItemKind-F.While e body) ∙ ap (λ z. Asked (asks e) ∷ z) (joined-map item_met body)

pub met-For : (s : ℕ) (e : RExpr) (body : List Item) → kind_met (kind.For s e body) ≡ Asked (asks e) ∷ flat_map item_met body
met-For s e body = ap kind_met (sym (kind.rolls-For s e body)) ∙ layer (ItemKind-F.For s e body) ∙ ap (λ z. Asked (asks e) ∷ z) (joined-map item_met body)

pub met-Call : (args : List BindArg) (body : List Item) → kind_met (kind.Call args body) ≡ Asked (sum_by (λ a. asks a.value) args) ∷ flat_map item_met body
met-Call args body =
    ap kind_met (sym (kind.rolls-Call args body))
    ∙ layer (ItemKind-F.Call args body)
    ∙ ap (λ z. Asked (sum (map (λ a. asks a.value) args)) ∷ z) (joined-map item_met body)
    ∙ ap (λ n. Asked n ∷ flat_map item_met body) (sum-map (λ a. asks a.value) args)

pub met-Await : (alts : List Alt) (timeout : Option (List Item)) (label : Option ℕ) → kind_met (kind.Await alts timeout label) ≡ flat_map alt_met alts ++ flat_map item_met (unwrap_or timeout [])
met-Await alts None label =
    ap kind_met (sym (kind.rolls-Await alts None label)) ∙ layer (ItemKind-F.Await alts None label) ∙ ap (λ z. z ++ []) (joined-map alt_met alts)
met-Await alts (Some block) label =
    ap kind_met (sym (kind.rolls-Await alts (Some block) label))
    ∙ layer (ItemKind-F.Await alts (Some block) label)
    ∙ ap (λ z. z ++ joined (map item_met block)) (joined-map alt_met alts)
    ∙ ap (λ z. flat_map alt_met alts ++ z) (joined-map item_met block)

pub met-Label : (l : ℕ) → kind_met (kind.Label l) ≡ []
met-Label l = ap kind_met (sym (kind.rolls-Label l)) ∙ layer (ItemKind-F.Label l)

pub met-Pass : kind_met kind.Pass ≡ []
met-Pass = ap kind_met (sym kind.rolls-Pass) ∙ layer ItemKind-F.Pass

pub item_met-is : (i : Item) → item_met i ≡ kind_met (out-Item i).kind
item_met-is i = fold_out-Item (List Met) (List Met) (List Met) (List Met) kind_met_step alt_met_step item_met_step branch_met_step i

pub branch_met-is : (b : RBranch) → branch_met b ≡ Asked (asks (out-RBranch b).cond) ∷ flat_map item_met (out-RBranch b).body
branch_met-is b =
    fold_out-RBranch (List Met) (List Met) (List Met) (List Met) kind_met_step alt_met_step item_met_step branch_met_step b
    ∙ ap (λ z. Asked (asks (out-RBranch b).cond) ∷ z) (joined-map item_met (out-RBranch b).body)

pub alt_met-is : (alt : Alt) → alt_met alt ≡ Asked (cond_asks (out-Alt alt).cond) ∷ Awaited (out-Alt alt).cond ∷ flat_map item_met (out-Alt alt).body
alt_met-is alt =
    fold_out-Alt (List Met) (List Met) (List Met) (List Met) kind_met_step alt_met_step item_met_step branch_met_step alt
    ∙ ap (λ z. Asked (cond_asks (out-Alt alt).cond) ∷ Awaited (out-Alt alt).cond ∷ z) (joined-map item_met (out-Alt alt).body)

-- Plans that are made.

pub made_with-both : (met more : List Met) (made : Made) → made_with (met ++ more) made ≡ made_with more (made_with met made)
made_with-both [] more made = refl
made_with-both (Asked n ∷ met) more made = made_with-both met more (with_asked n made.1 made.0)
made_with-both (Awaited b ∷ met) more made = made_with-both met more (with_flag made.0 b, made.1)

pub with_met-made : (met : List Met) (queries : List Query) (plan : Plan) → with_met met queries plan ≡ with_all (made_with met (plan, queries)).1 (made_with met (plan, queries)).0
with_met-made [] queries plan = refl
with_met-made (Asked n ∷ met) queries plan = let next = with_asked n queries plan in with_met-made met next.1 next.0
with_met-made (Awaited b ∷ met) queries plan = with_met-made met queries (with_flag plan b)
