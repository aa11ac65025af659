-- Expressions as conditions, as sides of comparisons, and as arguments of aggregates, one layer at a time.
use Rattle.std.specs.Prelude.{ℕ, ℤ, Bool, IfOk, if◌then◌else◌, List, map, Option, Some, None}
use Rattle.std.specs.List.{list_all}
use Rattle.std.specs.Option.{option_map}
use Rattle.std.proofs.Common.{◌≡◌, ◌∙◌, ap, sym, refl, [], ◌∷◌, ◌++◌, ◌&&◌, ◌+◌, ◌<◌, length, get_or, take, Result, Ok, Err}
use Rattle.std.proofs.lemmas.List.{map-append}
use Rattle.da_lang.specs.declared.query.AggOp.TheVariants as agg
use Rattle.da_lang.specs.declared.query.Cond.{Cond}
use Rattle.da_lang.specs.declared.query.Cond.TheVariants as co
use Rattle.da_lang.specs.declared.query.Operand.{Operand}
use Rattle.da_lang.specs.declared.query.Operand.TheVariants as od
use Rattle.da_lang.specs.declared.query.RGen.{RGen}
use Rattle.da_lang.specs.declared.query.SignedOperand.{SignedOperand, roll-SignedOperand}
use Rattle.da_lang.specs.declared.query.Term.TheVariants as te
use Rattle.da_lang.specs.declared.tree.ChainTree.{ChainTree, out-ChainTree}
use Rattle.da_lang.specs.declared.tree.CmpOp.{CmpOp}
use Rattle.da_lang.specs.declared.tree.Expr.{Expr, out-Expr, roll-Expr, roll-out-Expr}
use Rattle.da_lang.specs.declared.tree.Expr.TheFolds.{map-Expr, fold-roll-Expr}
use Rattle.da_lang.specs.declared.tree.Expr.TheOpen.{Expr-F}
use Rattle.da_lang.specs.declared.tree.Expr.TheVariants as ex
use Rattle.da_lang.specs.declared.tree.GenTree.{GenTree}
use Rattle.da_lang.specs.declared.tree.PatternTree.{PatternTree}
use Rattle.da_lang.specs.declared.tree.PeerTree.{PeerTree}
use Rattle.da_lang.specs.ExprMeaning.{Generator, Matching, Meaning, Meant, Peer, Range, Signed, agg_of, scope_after_gens, chain_meant, cond_after, elements, expr_meant, gen_meant, generator, gens_in, is_minus, is_sum, matching, meant, no_range, pattern_meant, peer_meant, peer_of, signed_of, signed_operand}
use Rattle.da_lang.specs.Scopes.{Scope, look}
use Rattle.da_lang.proofs.MeantAt.{meant-Quant, meant-Or, meant-And, meant-Not, meant-Cmp, meant-Chain, meant-Name, meant-Comp, meant-Count, meant-Sum, meant-Min, meant-Max}
use Rattle.da_lang.proofs.MeantAt.{signed_of-of}
use Rattle.da_lang.proofs.Taken.{taken}
use Rattle.da_meaning.specs.declared.condition.Rows.{Rows}
use Rattle.da_meaning.specs.MeaningView.{range_of}

-- an answer that is this is one that equals it
pub ok_as : {A E : Type 0} (r : Result A E) (p q : A) → p ≡ q → IfOk r (λ found. found ≡ p) → IfOk r (λ found. found ≡ q)
ok_as (Ok v) p q same told = told ∙ same
ok_as (Err e) p q same told = told

pub range_as : {E : Type 0} (r : Result Rows E) (p q : Range) → p ≡ q → IfOk r (λ rows. range_of rows ≡ p) → IfOk r (λ rows. range_of rows ≡ q)
range_as (Ok v) p q same told = told ∙ same
range_as (Err e) p q same told = told

-- what an expression becomes, by its layer
abbrev pub Layer : Type 0
Layer = Expr-F Expr PatternTree PeerTree ChainTree GenTree

abbrev pub layered : Layer → Meant
layered f = expr_meant (map-Expr Expr PatternTree PeerTree ChainTree GenTree Meant Matching Peer Signed Generator meant matching peer_of signed_of generator f)

pub layer_is : (x : Expr) → meant x ≡ layered (out-Expr x)
unfolding meant matching peer_of signed_of generator
layer_is x = ap meant (sym (roll-out-Expr x)) ∙ fold-roll-Expr Meant Matching Peer Signed Generator expr_meant pattern_meant peer_meant chain_meant gen_meant (out-Expr x)

-- a link of a chain
pub signed_is : (c : ChainTree) → signed_of c ≡ record { op = (out-ChainTree c).op; meant = meant (out-ChainTree c).operand }
signed_is c = let v = out-ChainTree c in signed_of-of v.op v.operand

signed-at : (c : ChainTree) (scope : Scope Meaning) → signed_operand scope (signed_of c) ≡ roll-SignedOperand (record { minus = is_minus (out-ChainTree c).op; operand = (meant (out-ChainTree c).operand).operand scope })
signed-at c scope = ap (signed_operand scope) (signed_is c)

-- whether all signs are those of sums
sums_of : (more : List ChainTree) → list_all (λ (y : Signed). is_sum y.op) (map signed_of more) ≡ list_all (λ (c : ChainTree). is_sum (out-ChainTree c).op) more
sums_of [] = refl
sums_of (c ∷ more) =
    ap (λ (b : Bool). b && list_all (λ (y : Signed). is_sum y.op) (map signed_of more)) (ap (λ (y : Signed). is_sum y.op) (signed_is c)) ∙ ap (λ (b : Bool). is_sum (out-ChainTree c).op && b) (sums_of more)

-- that an expression is not of a form
abbrev pub NoQuant : Expr → Type 0
NoQuant x = (each : Bool) (gens : List GenTree) (cond : Option Expr) → x ≡ ex.Quant each gens cond → ⊥

abbrev pub NoOr : Expr → Type 0
NoOr x = (xs : List Expr) → x ≡ ex.Or xs → ⊥

abbrev pub NoAnd : Expr → Type 0
NoAnd x = (xs : List Expr) → x ≡ ex.And xs → ⊥

abbrev pub NoNot : Expr → Type 0
NoNot x = (y : Expr) → x ≡ ex.Not y → ⊥

abbrev pub NoCmp : Expr → Type 0
NoCmp x = (op : CmpOp) (y z : Expr) → x ≡ ex.Cmp op y z → ⊥

abbrev pub NoChain : Expr → Type 0
NoChain x = (y : Expr) (more : List ChainTree) → x ≡ ex.Chain y more → ⊥

abbrev pub NoInt : Expr → Type 0
NoInt x = (number : ℤ) → x ≡ ex.Int number → ⊥

abbrev pub NoText : Expr → Type 0
NoText x = (bytes : List ℕ) → x ≡ ex.Text bytes → ⊥

abbrev pub NoTruth : Expr → Type 0
NoTruth x = (truth : Bool) → x ≡ ex.Truth truth → ⊥

abbrev pub NoMe : Expr → Type 0
NoMe x = x ≡ ex.Me → ⊥

abbrev pub NoName : Expr → Type 0
NoName x = (name : List ℕ) → x ≡ ex.Name name → ⊥

abbrev pub NoClock : Expr → Type 0
NoClock x = x ≡ ex.Clock → ⊥

abbrev pub NoComp : Expr → Type 0
NoComp x = (y : Expr) (gens : List GenTree) (cond : Option Expr) → x ≡ ex.Comp y gens cond → ⊥

abbrev pub NoCount : Expr → Type 0
NoCount x = (y : Expr) → x ≡ ex.Count y → ⊥

abbrev pub NoSum : Expr → Type 0
NoSum x = (y : Expr) → x ≡ ex.Sum y → ⊥

abbrev pub NoMin : Expr → Type 0
NoMin x = (y z : Expr) → x ≡ ex.Min y z → ⊥

abbrev pub NoMax : Expr → Type 0
NoMax x = (y z : Expr) → x ≡ ex.Max y z → ⊥

pub condition-Quant : (each : Bool) (gens : List GenTree) (cond : Option Expr) (scope : Scope Meaning) → (meant (ex.Quant each gens cond)).condition scope ≡ co.Quant each (gens_in (map generator gens) scope) (option_map (λ (c : Meant). c.condition (scope_after_gens (map generator gens) scope)) (option_map meant cond))
condition-Quant each gens cond scope = ap (λ (m : Meant). m.condition scope) (meant-Quant each gens cond)

pub condition-Or : (xs : List Expr) (scope : Scope Meaning) → (meant (ex.Or xs)).condition scope ≡ co.Or (map (λ (m : Meant). m.condition scope) (map meant xs))
condition-Or xs scope = ap (λ (m : Meant). m.condition scope) (meant-Or xs)

pub condition-And : (xs : List Expr) (scope : Scope Meaning) → (meant (ex.And xs)).condition scope ≡ co.And (map (λ (m : Meant). m.condition scope) (map meant xs))
condition-And xs scope = ap (λ (m : Meant). m.condition scope) (meant-And xs)

pub condition-Not : (x : Expr) (scope : Scope Meaning) → (meant (ex.Not x)).condition scope ≡ co.Not ((meant x).condition scope)
condition-Not x scope = ap (λ (m : Meant). m.condition scope) (meant-Not x)

pub condition-Cmp : (o : CmpOp) (x y : Expr) (scope : Scope Meaning) → (meant (ex.Cmp o x y)).condition scope ≡ co.Cmp o ((meant x).operand scope) ((meant y).operand scope)
condition-Cmp o x y scope = ap (λ (m : Meant). m.condition scope) (meant-Cmp o x y)

-- an expression of another form is a condition as a term
other_condition : (x : Expr) (f : Layer) (scope : Scope Meaning) → x ≡ roll-Expr f → NoQuant x → NoOr x → NoAnd x → NoNot x → NoCmp x → (layered f).condition scope ≡ co.Truth ((layered f).term scope)
other_condition x (Expr-F.Quant each gens cond) scope is no_quant no_or no_and no_not no_cmp = absurd (no_quant each gens cond (is ∙ ex.rolls-Quant each gens cond))
other_condition x (Expr-F.Or xs) scope is no_quant no_or no_and no_not no_cmp = absurd (no_or xs (is ∙ ex.rolls-Or xs))
other_condition x (Expr-F.And xs) scope is no_quant no_or no_and no_not no_cmp = absurd (no_and xs (is ∙ ex.rolls-And xs))
other_condition x (Expr-F.Not y) scope is no_quant no_or no_and no_not no_cmp = absurd (no_not y (is ∙ ex.rolls-Not y))
other_condition x (Expr-F.Cmp op y z) scope is no_quant no_or no_and no_not no_cmp = absurd (no_cmp op y z (is ∙ ex.rolls-Cmp op y z))
other_condition x (Expr-F.Member y z) scope is no_quant no_or no_and no_not no_cmp = refl
other_condition x (Expr-F.Chain y more) scope is no_quant no_or no_and no_not no_cmp = refl
other_condition x (Expr-F.«Expr::Int» number) scope is no_quant no_or no_and no_not no_cmp = refl
other_condition x (Expr-F.«Expr::Text» bytes) scope is no_quant no_or no_and no_not no_cmp = refl
other_condition x (Expr-F.«Expr::Truth» truth) scope is no_quant no_or no_and no_not no_cmp = refl
other_condition x Expr-F.«Expr::Me» scope is no_quant no_or no_and no_not no_cmp = refl
other_condition x (Expr-F.«Expr::Name» name) scope is no_quant no_or no_and no_not no_cmp = refl
other_condition x Expr-F.Clock scope is no_quant no_or no_and no_not no_cmp = refl
other_condition x (Expr-F.Range y z) scope is no_quant no_or no_and no_not no_cmp = refl
other_condition x (Expr-F.«Expr::Tuple» xs) scope is no_quant no_or no_and no_not no_cmp = refl
other_condition x (Expr-F.SetOf xs) scope is no_quant no_or no_and no_not no_cmp = refl
other_condition x (Expr-F.Comp y gens cond) scope is no_quant no_or no_and no_not no_cmp = refl
other_condition x (Expr-F.Count y) scope is no_quant no_or no_and no_not no_cmp = refl
other_condition x (Expr-F.Sum y) scope is no_quant no_or no_and no_not no_cmp = refl
other_condition x (Expr-F.Min y z) scope is no_quant no_or no_and no_not no_cmp = refl
other_condition x (Expr-F.Max y z) scope is no_quant no_or no_and no_not no_cmp = refl

pub condition_others : (x : Expr) (scope : Scope Meaning) → NoQuant x → NoOr x → NoAnd x → NoNot x → NoCmp x → (meant x).condition scope ≡ co.Truth ((meant x).term scope)
condition_others x scope no_quant no_or no_and no_not no_cmp =
    ap (λ (m : Meant). m.condition scope) (layer_is x) ∙ other_condition x (out-Expr x) scope (sym (roll-out-Expr x)) no_quant no_or no_and no_not no_cmp
    ∙ sym (ap (λ (m : Meant). co.Truth (m.term scope)) (layer_is x))

pub operand-Chain : (x : Expr) (more : List ChainTree) (scope : Scope Meaning) → (meant (ex.Chain x more)).operand scope ≡ (if list_all (λ (c : ChainTree). is_sum (out-ChainTree c).op) more then od.Chain ((meant x).operand scope) (map (signed_operand scope) (map signed_of more)) else od.Term te.Foreign)
operand-Chain x more scope = ap (λ (m : Meant). m.operand scope) (meant-Chain x more) ∙ ap (λ (b : Bool). if b then od.Chain ((meant x).operand scope) (map (signed_operand scope) (map signed_of more)) else od.Term te.Foreign) (sums_of more)

pub operand-Count : (x : Expr) (scope : Scope Meaning) → (meant (ex.Count x)).operand scope ≡ od.Agg (agg_of agg.Count ((meant x).range scope) None)
operand-Count x scope = ap (λ (m : Meant). m.operand scope) (meant-Count x)

pub operand-Sum : (x : Expr) (scope : Scope Meaning) → (meant (ex.Sum x)).operand scope ≡ od.Agg (agg_of agg.Sum ((meant x).range scope) None)
operand-Sum x scope = ap (λ (m : Meant). m.operand scope) (meant-Sum x)

pub operand-Min : (x y : Expr) (scope : Scope Meaning) → (meant (ex.Min x y)).operand scope ≡ od.Agg (agg_of agg.Min ((meant x).range scope) (Some ((meant y).term scope)))
operand-Min x y scope = ap (λ (m : Meant). m.operand scope) (meant-Min x y)

pub operand-Max : (x y : Expr) (scope : Scope Meaning) → (meant (ex.Max x y)).operand scope ≡ od.Agg (agg_of agg.Max ((meant x).range scope) (Some ((meant y).term scope)))
operand-Max x y scope = ap (λ (m : Meant). m.operand scope) (meant-Max x y)

-- an expression of another form is a side of a comparison as a term
other_operand : (x : Expr) (f : Layer) (scope : Scope Meaning) → x ≡ roll-Expr f → NoChain x → NoCount x → NoSum x → NoMin x → NoMax x → (layered f).operand scope ≡ od.Term ((layered f).term scope)
other_operand x (Expr-F.Quant each gens cond) scope is no_chain no_count no_sum no_min no_max = refl
other_operand x (Expr-F.Or xs) scope is no_chain no_count no_sum no_min no_max = refl
other_operand x (Expr-F.And xs) scope is no_chain no_count no_sum no_min no_max = refl
other_operand x (Expr-F.Not y) scope is no_chain no_count no_sum no_min no_max = refl
other_operand x (Expr-F.Cmp op y z) scope is no_chain no_count no_sum no_min no_max = refl
other_operand x (Expr-F.Member y z) scope is no_chain no_count no_sum no_min no_max = refl
other_operand x (Expr-F.Chain y more) scope is no_chain no_count no_sum no_min no_max = absurd (no_chain y more (is ∙ ex.rolls-Chain y more))
other_operand x (Expr-F.«Expr::Int» number) scope is no_chain no_count no_sum no_min no_max = refl
other_operand x (Expr-F.«Expr::Text» bytes) scope is no_chain no_count no_sum no_min no_max = refl
other_operand x (Expr-F.«Expr::Truth» truth) scope is no_chain no_count no_sum no_min no_max = refl
other_operand x Expr-F.«Expr::Me» scope is no_chain no_count no_sum no_min no_max = refl
other_operand x (Expr-F.«Expr::Name» name) scope is no_chain no_count no_sum no_min no_max = refl
other_operand x Expr-F.Clock scope is no_chain no_count no_sum no_min no_max = refl
other_operand x (Expr-F.Range y z) scope is no_chain no_count no_sum no_min no_max = refl
other_operand x (Expr-F.«Expr::Tuple» xs) scope is no_chain no_count no_sum no_min no_max = refl
other_operand x (Expr-F.SetOf xs) scope is no_chain no_count no_sum no_min no_max = refl
other_operand x (Expr-F.Comp y gens cond) scope is no_chain no_count no_sum no_min no_max = refl
other_operand x (Expr-F.Count y) scope is no_chain no_count no_sum no_min no_max = absurd (no_count y (is ∙ ex.rolls-Count y))
other_operand x (Expr-F.Sum y) scope is no_chain no_count no_sum no_min no_max = absurd (no_sum y (is ∙ ex.rolls-Sum y))
other_operand x (Expr-F.Min y z) scope is no_chain no_count no_sum no_min no_max = absurd (no_min y z (is ∙ ex.rolls-Min y z))
other_operand x (Expr-F.Max y z) scope is no_chain no_count no_sum no_min no_max = absurd (no_max y z (is ∙ ex.rolls-Max y z))

pub operand_others : (x : Expr) (scope : Scope Meaning) → NoChain x → NoCount x → NoSum x → NoMin x → NoMax x → (meant x).operand scope ≡ od.Term ((meant x).term scope)
operand_others x scope no_chain no_count no_sum no_min no_max =
    ap (λ (m : Meant). m.operand scope) (layer_is x) ∙ other_operand x (out-Expr x) scope (sym (roll-out-Expr x)) no_chain no_count no_sum no_min no_max
    ∙ sym (ap (λ (m : Meant). od.Term (m.term scope)) (layer_is x))

pub range-Name : (name : List ℕ) (scope : Scope Meaning) → (meant (ex.Name name)).range scope ≡ elements (look scope name) scope
range-Name name scope = ap (λ (m : Meant). m.range scope) (meant-Name name)

pub range-Comp : (x : Expr) (gens : List GenTree) (cond : Option Expr) (scope : Scope Meaning) → (meant (ex.Comp x gens cond)).range scope ≡ record { gens = gens_in (map generator gens) scope; cond = option_map (λ (c : Meant). c.condition (scope_after_gens (map generator gens) scope)) (option_map meant cond); term = (meant x).term (scope_after_gens (map generator gens) scope) }
range-Comp x gens cond scope = ap (λ (m : Meant). m.range scope) (meant-Comp x gens cond)

-- an expression of another form goes over nothing
other_range : (x : Expr) (f : Layer) (scope : Scope Meaning) → x ≡ roll-Expr f → NoName x → NoComp x → (layered f).range scope ≡ no_range scope
other_range x (Expr-F.Quant each gens cond) scope is no_name no_comp = refl
other_range x (Expr-F.Or xs) scope is no_name no_comp = refl
other_range x (Expr-F.And xs) scope is no_name no_comp = refl
other_range x (Expr-F.Not y) scope is no_name no_comp = refl
other_range x (Expr-F.Cmp op y z) scope is no_name no_comp = refl
other_range x (Expr-F.Member y z) scope is no_name no_comp = refl
other_range x (Expr-F.Chain y more) scope is no_name no_comp = refl
other_range x (Expr-F.«Expr::Int» number) scope is no_name no_comp = refl
other_range x (Expr-F.«Expr::Text» bytes) scope is no_name no_comp = refl
other_range x (Expr-F.«Expr::Truth» truth) scope is no_name no_comp = refl
other_range x Expr-F.«Expr::Me» scope is no_name no_comp = refl
other_range x (Expr-F.«Expr::Name» name) scope is no_name no_comp = absurd (no_name name (is ∙ ex.rolls-Name name))
other_range x Expr-F.Clock scope is no_name no_comp = refl
other_range x (Expr-F.Range y z) scope is no_name no_comp = refl
other_range x (Expr-F.«Expr::Tuple» xs) scope is no_name no_comp = refl
other_range x (Expr-F.SetOf xs) scope is no_name no_comp = refl
other_range x (Expr-F.Comp y gens cond) scope is no_name no_comp = absurd (no_comp y gens cond (is ∙ ex.rolls-Comp y gens cond))
other_range x (Expr-F.Count y) scope is no_name no_comp = refl
other_range x (Expr-F.Sum y) scope is no_name no_comp = refl
other_range x (Expr-F.Min y z) scope is no_name no_comp = refl
other_range x (Expr-F.Max y z) scope is no_name no_comp = refl

pub range_others : (x : Expr) (scope : Scope Meaning) → NoName x → NoComp x → (meant x).range scope ≡ no_range scope
range_others x scope no_name no_comp = ap (λ (m : Meant). m.range scope) (layer_is x) ∙ other_range x (out-Expr x) scope (sym (roll-out-Expr x)) no_name no_comp

pub ruleset conditions_at = (condition-Quant, condition-Or, condition-And, condition-Not, condition-Cmp)

pub ruleset operands_at = (operand-Chain, operand-Count, operand-Sum, operand-Min, operand-Max)

pub ruleset ranges_at = (range-Name, range-Comp)

-- a quantification, by its parts
pub quant_is : (x : Expr) (each : Bool) (gens : List GenTree) (cond : Option Expr) (scope : Scope Meaning) (gs : List RGen) (guard : Option Cond) (result : Cond)
    → x ≡ ex.Quant each gens cond → gs ≡ gens_in (map generator gens) scope → guard ≡ cond_after (map generator gens) (option_map meant cond) scope
    → result ≡ co.Quant each gs guard → result ≡ (meant x).condition scope
quant_is x each gens cond scope gs guard result is all guarded made =
    made ∙ ap (λ hs. co.Quant each hs guard) all ∙ ap (λ g. co.Quant each (gens_in (map generator gens) scope) g) guarded
    ∙ sym (ap (λ (y : Expr). (meant y).condition scope) is ∙ condition-Quant each gens cond scope)

-- the rows of a comprehension
pub comp_range : (x y z : Expr) (gens : List GenTree) (cond : Option Expr) (scope inner : Scope Meaning) (gs : List RGen) (guard : Option Cond)
    → x ≡ ex.Comp y gens cond → z ≡ y → gs ≡ gens_in (map generator gens) scope → guard ≡ cond_after (map generator gens) (option_map meant cond) scope → inner ≡ scope_after_gens (map generator gens) scope
    → ◌≡◌ {A = Range} (record { gens = gs; cond = guard; term = (meant z).term inner }) ((meant x).range scope)
comp_range x y z gens cond scope inner gs guard is same found guarded there =
    ap (λ (w : Expr). record { gens = gs; cond = guard; term = (meant w).term inner }) same
    ∙ ap (λ s. record { gens = gs; cond = guard; term = (meant y).term s }) there
    ∙ ap (λ hs. record { gens = hs; cond = guard; term = (meant y).term (scope_after_gens (map generator gens) scope) }) found
    ∙ ap (λ g. record { gens = gens_in (map generator gens) scope; cond = g; term = (meant y).term (scope_after_gens (map generator gens) scope) }) guarded
    ∙ sym (ap (λ (w : Expr). (meant w).range scope) is ∙ range-Comp y gens cond scope)

-- a link more of a chain
pub signed_step : (links : List ChainTree) (i : ℕ) (link : ChainTree) (x : Expr) (scope : Scope Meaning) (found more : List SignedOperand) (minus : Bool) (operand : Operand)
    → i < length links → link ≡ get_or links i link → found ≡ map (signed_operand scope) (map signed_of (take i links)) → minus ≡ is_minus (out-ChainTree link).op
    → x ≡ (out-ChainTree link).operand → operand ≡ (meant x).operand scope → more ≡ found ++ roll-SignedOperand (record { minus = minus; operand = operand }) ∷ []
    → more ≡ map (signed_operand scope) (map signed_of (take (i + 1) links))
signed_step links i link x scope found more minus operand inside here so_far sign got side grown =
    let front = take i links in
    let one : roll-SignedOperand (record { minus = minus; operand = operand }) ≡ signed_operand scope (signed_of link) =
    ap (λ (b : Bool). roll-SignedOperand (record { minus = b; operand = operand })) sign ∙ ap (λ (o : Operand). roll-SignedOperand (record { minus = is_minus (out-ChainTree link).op; operand = o })) (side ∙ ap (λ (y : Expr). (meant y).operand scope) got) ∙ sym (signed-at link scope) in
    let all : map (signed_operand scope) (map signed_of (front ++ link ∷ [])) ≡ map (signed_operand scope) (map signed_of front) ++ signed_operand scope (signed_of link) ∷ [] =
    ap (map (signed_operand scope)) (map-append signed_of front (link ∷ [])) ∙ map-append (signed_operand scope) (map signed_of front) (signed_of link ∷ []) in
    grown ∙ ap (λ os. os ++ roll-SignedOperand (record { minus = minus; operand = operand }) ∷ []) so_far ∙ ap (λ o. map (signed_operand scope) (map signed_of front) ++ o ∷ []) one
    ∙ sym (ap (λ ls. map (signed_operand scope) (map signed_of ls)) (taken links i link inside here) ∙ all)
