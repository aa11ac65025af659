-- Expressions outside queries, one layer at a time, and one expression more.
use Rattle.std.specs.Prelude.{ℕ, ℤ, Bool, List, [], ◌∷◌, ◌++◌, map, length, Option, Some, None}
use Rattle.std.specs.Option.{option_map}
use Rattle.std.proofs.Common.{◌≡◌, ◌∙◌, ap, sym, refl, ◌+◌, ◌<◌, get_or, take, Result, Ok, Err, OnOk}
use Rattle.da_values.specs.declared.value.Value.TheVariants as kept
use Rattle.da_lang.specs.declared.program.ChainPart.{ChainPart, roll-ChainPart}
use Rattle.da_lang.specs.declared.program.RExpr.{RExpr}
use Rattle.da_lang.specs.declared.program.RExpr.TheVariants as re
use Rattle.da_lang.specs.declared.query.AggOp.TheVariants as agg
use Rattle.da_lang.specs.declared.query.Query.{Query}
use Rattle.da_lang.specs.declared.query.Query.TheVariants as qu
use Rattle.da_lang.specs.declared.tree.ChainTree.{ChainTree, out-ChainTree}
use Rattle.da_lang.specs.declared.tree.CmpOp.{CmpOp}
use Rattle.da_lang.specs.declared.tree.Expr.{Expr, out-Expr, roll-Expr, roll-out-Expr}
use Rattle.da_lang.specs.declared.tree.Expr.TheOpen.{Expr-F}
use Rattle.da_lang.specs.declared.tree.Expr.TheVariants as ex
use Rattle.da_lang.specs.declared.tree.GenTree.{GenTree}
use Rattle.da_lang.specs.ExprMeaning.{Meaning, Meant, Tables, agg_of, all_outside, ask, scope_after_gens, chain_outside, cond_after, generator, gens_in, list_outside, meant, name_outside, one_outside, signed_of, signed_outside, two_outside}
use Rattle.da_lang.specs.Scopes.{Scope, look}
use Rattle.da_lang.proofs.MeantAt.{meant-Quant, meant-Or, meant-And, meant-Not, meant-Cmp, meant-Member, meant-Chain, meant-Int, meant-Text, meant-Truth, meant-Me, meant-Name, meant-Clock, meant-Range, meant-Tuple, meant-SetOf, meant-Comp, meant-Count, meant-Sum, meant-Min, meant-Max}
use Rattle.da_meaning.specs.Alone.{IsAlone}
use Rattle.da_meaning.proofs.CondsAt.{Layer, NoQuant, NoInt, NoText, NoTruth, NoMe, NoName, NoClock, NoComp, NoCount, NoSum, NoMin, NoMax, signed_is}
use Rattle.da_lang.proofs.Taken.{taken}

pub outside-Quant : (each : Bool) (gens : List GenTree) (cond : Option Expr) (scope : Scope Meaning) (tables : Tables) → ◌≡◌ {A = RExpr × Tables} ((meant (ex.Quant each gens cond)).outside scope tables) (ask (λ (s : Scope Meaning). qu.Quant each (gens_in (map generator gens) s) (cond_after (map generator gens) (option_map meant cond) s)) scope tables)
outside-Quant each gens cond scope tables = ap (λ (m : Meant). m.outside scope tables) (meant-Quant each gens cond)

pub outside-Or : (xs : List Expr) (scope : Scope Meaning) (tables : Tables) → ◌≡◌ {A = RExpr × Tables} ((meant (ex.Or xs)).outside scope tables) (list_outside re.Or (map meant xs) scope tables)
outside-Or xs scope tables = ap (λ (m : Meant). m.outside scope tables) (meant-Or xs)

pub outside-And : (xs : List Expr) (scope : Scope Meaning) (tables : Tables) → ◌≡◌ {A = RExpr × Tables} ((meant (ex.And xs)).outside scope tables) (list_outside re.And (map meant xs) scope tables)
outside-And xs scope tables = ap (λ (m : Meant). m.outside scope tables) (meant-And xs)

pub outside-Not : (x : Expr) (scope : Scope Meaning) (tables : Tables) → ◌≡◌ {A = RExpr × Tables} ((meant (ex.Not x)).outside scope tables) (one_outside re.Not (meant x) scope tables)
outside-Not x scope tables = ap (λ (m : Meant). m.outside scope tables) (meant-Not x)

pub outside-Cmp : (o : CmpOp) (x y : Expr) (scope : Scope Meaning) (tables : Tables) → ◌≡◌ {A = RExpr × Tables} ((meant (ex.Cmp o x y)).outside scope tables) (two_outside (re.Cmp o) (meant x) (meant y) scope tables)
outside-Cmp o x y scope tables = ap (λ (m : Meant). m.outside scope tables) (meant-Cmp o x y)

pub outside-Member : (x y : Expr) (scope : Scope Meaning) (tables : Tables) → ◌≡◌ {A = RExpr × Tables} ((meant (ex.Member x y)).outside scope tables) (two_outside re.Member (meant x) (meant y) scope tables)
outside-Member x y scope tables = ap (λ (m : Meant). m.outside scope tables) (meant-Member x y)

pub outside-Chain : (x : Expr) (more : List ChainTree) (scope : Scope Meaning) (tables : Tables) → ◌≡◌ {A = RExpr × Tables} ((meant (ex.Chain x more)).outside scope tables) (chain_outside (meant x) (map signed_of more) scope tables)
outside-Chain x more scope tables = ap (λ (m : Meant). m.outside scope tables) (meant-Chain x more)

pub outside-Int : (number : ℤ) (scope : Scope Meaning) (tables : Tables) → ◌≡◌ {A = RExpr × Tables} ((meant (ex.Int number)).outside scope tables) ((re.Const (kept.Int number), tables))
outside-Int number scope tables = ap (λ (m : Meant). m.outside scope tables) (meant-Int number)

pub outside-Text : (bytes : List ℕ) (scope : Scope Meaning) (tables : Tables) → ◌≡◌ {A = RExpr × Tables} ((meant (ex.Text bytes)).outside scope tables) ((re.Const (kept.Text bytes), tables))
outside-Text bytes scope tables = ap (λ (m : Meant). m.outside scope tables) (meant-Text bytes)

pub outside-Truth : (truth : Bool) (scope : Scope Meaning) (tables : Tables) → ◌≡◌ {A = RExpr × Tables} ((meant (ex.Truth truth)).outside scope tables) ((re.Const (kept.Bool truth), tables))
outside-Truth truth scope tables = ap (λ (m : Meant). m.outside scope tables) (meant-Truth truth)

pub outside-Me : (scope : Scope Meaning) (tables : Tables) → ◌≡◌ {A = RExpr × Tables} ((meant ex.Me).outside scope tables) ((re.Me, tables))
outside-Me scope tables = ap (λ (m : Meant). m.outside scope tables) meant-Me

pub outside-Name : (name : List ℕ) (scope : Scope Meaning) (tables : Tables) → ◌≡◌ {A = RExpr × Tables} ((meant (ex.Name name)).outside scope tables) ((name_outside (look scope name), tables))
outside-Name name scope tables = ap (λ (m : Meant). m.outside scope tables) (meant-Name name)

pub outside-Clock : (scope : Scope Meaning) (tables : Tables) → ◌≡◌ {A = RExpr × Tables} ((meant ex.Clock).outside scope tables) ((re.Clock, tables))
outside-Clock scope tables = ap (λ (m : Meant). m.outside scope tables) meant-Clock

pub outside-Range : (x y : Expr) (scope : Scope Meaning) (tables : Tables) → ◌≡◌ {A = RExpr × Tables} ((meant (ex.Range x y)).outside scope tables) (two_outside re.Range (meant x) (meant y) scope tables)
outside-Range x y scope tables = ap (λ (m : Meant). m.outside scope tables) (meant-Range x y)

pub outside-Tuple : (xs : List Expr) (scope : Scope Meaning) (tables : Tables) → ◌≡◌ {A = RExpr × Tables} ((meant (ex.Tuple xs)).outside scope tables) (list_outside re.Tuple (map meant xs) scope tables)
outside-Tuple xs scope tables = ap (λ (m : Meant). m.outside scope tables) (meant-Tuple xs)

pub outside-SetOf : (xs : List Expr) (scope : Scope Meaning) (tables : Tables) → ◌≡◌ {A = RExpr × Tables} ((meant (ex.SetOf xs)).outside scope tables) (list_outside re.SetOf (map meant xs) scope tables)
outside-SetOf xs scope tables = ap (λ (m : Meant). m.outside scope tables) (meant-SetOf xs)

pub outside-Comp : (x : Expr) (gens : List GenTree) (cond : Option Expr) (scope : Scope Meaning) (tables : Tables) → ◌≡◌ {A = RExpr × Tables} ((meant (ex.Comp x gens cond)).outside scope tables) (ask (λ (s : Scope Meaning). qu.Comp ((meant x).term (scope_after_gens (map generator gens) s)) (gens_in (map generator gens) s) (cond_after (map generator gens) (option_map meant cond) s)) scope tables)
outside-Comp x gens cond scope tables = ap (λ (m : Meant). m.outside scope tables) (meant-Comp x gens cond)

pub outside-Count : (x : Expr) (scope : Scope Meaning) (tables : Tables) → ◌≡◌ {A = RExpr × Tables} ((meant (ex.Count x)).outside scope tables) (ask (λ (s : Scope Meaning). qu.Agg (agg_of agg.Count ((meant x).range s) None)) scope tables)
outside-Count x scope tables = ap (λ (m : Meant). m.outside scope tables) (meant-Count x)

pub outside-Sum : (x : Expr) (scope : Scope Meaning) (tables : Tables) → ◌≡◌ {A = RExpr × Tables} ((meant (ex.Sum x)).outside scope tables) (ask (λ (s : Scope Meaning). qu.Agg (agg_of agg.Sum ((meant x).range s) None)) scope tables)
outside-Sum x scope tables = ap (λ (m : Meant). m.outside scope tables) (meant-Sum x)

pub outside-Min : (x y : Expr) (scope : Scope Meaning) (tables : Tables) → ◌≡◌ {A = RExpr × Tables} ((meant (ex.Min x y)).outside scope tables) (ask (λ (s : Scope Meaning). qu.Agg (agg_of agg.Min ((meant x).range s) (Some ((meant y).term s)))) scope tables)
outside-Min x y scope tables = ap (λ (m : Meant). m.outside scope tables) (meant-Min x y)

pub outside-Max : (x y : Expr) (scope : Scope Meaning) (tables : Tables) → ◌≡◌ {A = RExpr × Tables} ((meant (ex.Max x y)).outside scope tables) (ask (λ (s : Scope Meaning). qu.Agg (agg_of agg.Max ((meant x).range s) (Some ((meant y).term s)))) scope tables)
outside-Max x y scope tables = ap (λ (m : Meant). m.outside scope tables) (meant-Max x y)

pub ruleset outsides_at = (outside-Or, outside-And, outside-Not, outside-Cmp, outside-Member, outside-Chain, outside-Range, outside-Tuple, outside-SetOf)

pub ruleset alone_at = (outside-Quant, outside-Int, outside-Text, outside-Truth, outside-Me, outside-Name, outside-Clock, outside-Comp, outside-Count, outside-Sum, outside-Min, outside-Max)

-- one expression after others: the values, and the tables
pub values_more : (xs : List Expr) (x : Expr) (scope : Scope Meaning) (tables : Tables)
    → (all_outside (map meant (xs ++ x ∷ [])) scope tables).0 ≡ (all_outside (map meant xs) scope tables).0 ++ ((meant x).outside scope (all_outside (map meant xs) scope tables).1).0 ∷ []
values_more [] x scope tables = refl
values_more (y ∷ xs) x scope tables = let first = (meant y).outside scope tables in ap (λ others. first.0 ∷ others) (values_more xs x scope first.1)

pub tables_more : (xs : List Expr) (x : Expr) (scope : Scope Meaning) (tables : Tables)
    → (all_outside (map meant (xs ++ x ∷ [])) scope tables).1 ≡ ((meant x).outside scope (all_outside (map meant xs) scope tables).1).1
tables_more [] x scope tables = refl
tables_more (y ∷ xs) x scope tables = let first = (meant y).outside scope tables in tables_more xs x scope first.1

pub values_step : (xs : List Expr) (i : ℕ) (x : Expr) (scope : Scope Meaning) (before middle : Tables) (found more : List RExpr) (r : RExpr)
    → i < length xs → x ≡ get_or xs i x → found ≡ (all_outside (map meant (take i xs)) scope before).0 → middle ≡ (all_outside (map meant (take i xs)) scope before).1
    → r ≡ ((meant x).outside scope middle).0 → more ≡ found ++ r ∷ [] → more ≡ (all_outside (map meant (take (i + 1) xs)) scope before).0
values_step xs i x scope before middle found more r inside here so_far inner one grown =
    let next = taken xs i x inside here in
    let all = values_more (take i xs) x scope before in
    cc

pub tables_step : (xs : List Expr) (i : ℕ) (x : Expr) (scope : Scope Meaning) (before middle after : Tables)
    → i < length xs → x ≡ get_or xs i x → middle ≡ (all_outside (map meant (take i xs)) scope before).1 → after ≡ ((meant x).outside scope middle).1
    → after ≡ (all_outside (map meant (take (i + 1) xs)) scope before).1
tables_step xs i x scope before middle after inside here inner one =
    let next = taken xs i x inside here in
    let all = tables_more (take i xs) x scope before in
    cc

-- the same for the links of a chain
abbrev link_at : ChainTree → RExpr → ChainPart
link_at link operand = roll-ChainPart (record { op = (out-ChainTree link).op; operand = operand })

links_more : (links : List ChainTree) (link : ChainTree) (scope : Scope Meaning) (tables : Tables)
    → (signed_outside (map signed_of (links ++ link ∷ [])) scope tables).0
    ≡ (signed_outside (map signed_of links) scope tables).0 ++ link_at link ((meant (out-ChainTree link).operand).outside scope (signed_outside (map signed_of links) scope tables).1).0 ∷ []
links_more [] link scope tables = ap (λ s. (signed_outside (s ∷ []) scope tables).0) (signed_is link)
links_more (l ∷ links) link scope tables =
    let first = (signed_of l).meant.outside scope tables in
    ap (λ others. roll-ChainPart (record { op = (signed_of l).op; operand = first.0 }) ∷ others) (links_more links link scope first.1)

link_tables_more : (links : List ChainTree) (link : ChainTree) (scope : Scope Meaning) (tables : Tables)
    → (signed_outside (map signed_of (links ++ link ∷ [])) scope tables).1 ≡ ((meant (out-ChainTree link).operand).outside scope (signed_outside (map signed_of links) scope tables).1).1
link_tables_more [] link scope tables = ap (λ s. (signed_outside (s ∷ []) scope tables).1) (signed_is link)
link_tables_more (l ∷ links) link scope tables = let first = (signed_of l).meant.outside scope tables in link_tables_more links link scope first.1

pub links_step : (links : List ChainTree) (i : ℕ) (link : ChainTree) (x : Expr) (scope : Scope Meaning) (before middle : Tables) (found more : List ChainPart) (operand : RExpr)
    → i < length links → link ≡ get_or links i link → found ≡ (signed_outside (map signed_of (take i links)) scope before).0
    → middle ≡ (signed_outside (map signed_of (take i links)) scope before).1 → x ≡ (out-ChainTree link).operand → operand ≡ ((meant x).outside scope middle).0
    → more ≡ found ++ link_at link operand ∷ [] → more ≡ (signed_outside (map signed_of (take (i + 1) links)) scope before).0
links_step links i link x scope before middle found more operand inside here so_far inner got one grown =
    let next = taken links i link inside here in
    let all = links_more (take i links) link scope before in
    cc

pub link_tables_step : (links : List ChainTree) (i : ℕ) (link : ChainTree) (x : Expr) (scope : Scope Meaning) (before middle after : Tables)
    → i < length links → link ≡ get_or links i link → middle ≡ (signed_outside (map signed_of (take i links)) scope before).1 → x ≡ (out-ChainTree link).operand
    → after ≡ ((meant x).outside scope middle).1 → after ≡ (signed_outside (map signed_of (take (i + 1) links)) scope before).1
link_tables_step links i link x scope before middle after inside here inner got one =
    let next = taken links i link inside here in
    let all = link_tables_more (take i links) link scope before in
    cc

-- the tables after a query
abbrev with_query : Tables → Query → Tables
with_query tables query = record { slots = tables.slots; queries = tables.queries ++ query ∷ [] }

abbrev quant_query : Bool → List GenTree → Option Expr → Scope Meaning → Query
quant_query each gens cond scope = qu.Quant each (gens_in (map generator gens) scope) (cond_after (map generator gens) (option_map meant cond) scope)

abbrev comp_query : Expr → List GenTree → Option Expr → Scope Meaning → Query
comp_query y gens cond scope = qu.Comp ((meant y).term (scope_after_gens (map generator gens) scope)) (gens_in (map generator gens) scope) (cond_after (map generator gens) (option_map meant cond) scope)

pub asked_quant : {E : Type 0} (r : Result RExpr E) (x : Expr) (each : Bool) (gens : List GenTree) (cond : Option Expr) (scope : Scope Meaning) (before after : Tables) (query : Query)
    → x ≡ ex.Quant each gens cond → query ≡ quant_query each gens cond scope → OnOk r (after ≡ with_query before query) → OnOk r (after ≡ ((meant x).outside scope before).1)
asked_quant (Ok v) x each gens cond scope before after query is made told =
    told ∙ ap (with_query before) made ∙ sym (ap (λ (y : Expr). ((meant y).outside scope before).1) is ∙ ap (λ (p : RExpr × Tables). p.1) (outside-Quant each gens cond scope before))
asked_quant (Err e) x each gens cond scope before after query is made told = told

pub asked_comp : {E : Type 0} (r : Result RExpr E) (x y : Expr) (gens : List GenTree) (cond : Option Expr) (scope : Scope Meaning) (before after : Tables) (query : Query)
    → x ≡ ex.Comp y gens cond → query ≡ comp_query y gens cond scope → OnOk r (after ≡ with_query before query) → OnOk r (after ≡ ((meant x).outside scope before).1)
asked_comp (Ok v) x y gens cond scope before after query is made told =
    told ∙ ap (with_query before) made ∙ sym (ap (λ (w : Expr). ((meant w).outside scope before).1) is ∙ ap (λ (p : RExpr × Tables). p.1) (outside-Comp y gens cond scope before))
asked_comp (Err e) x y gens cond scope before after query is made told = told

-- no form is left
nothing : (x : Expr) (f : Layer) → x ≡ roll-Expr f → IsAlone x → NoQuant x → NoInt x → NoText x → NoTruth x → NoMe x → NoName x → NoClock x → NoComp x → NoCount x → NoSum x → NoMin x → NoMax x → ⊥
nothing x (Expr-F.Quant each gens cond) is a q i t b m n k c o s l g = q each gens cond (is ∙ ex.rolls-Quant each gens cond)
nothing x (Expr-F.Or xs) is a q i t b m n k c o s l g = a.no_or xs (is ∙ ex.rolls-Or xs)
nothing x (Expr-F.And xs) is a q i t b m n k c o s l g = a.no_and xs (is ∙ ex.rolls-And xs)
nothing x (Expr-F.Not y) is a q i t b m n k c o s l g = a.no_not y (is ∙ ex.rolls-Not y)
nothing x (Expr-F.Cmp op y z) is a q i t b m n k c o s l g = a.no_cmp op y z (is ∙ ex.rolls-Cmp op y z)
nothing x (Expr-F.Member y z) is a q i t b m n k c o s l g = a.no_member y z (is ∙ ex.rolls-Member y z)
nothing x (Expr-F.Chain y more) is a q i t b m n k c o s l g = a.no_chain y more (is ∙ ex.rolls-Chain y more)
nothing x (Expr-F.«Expr::Int» number) is a q i t b m n k c o s l g = i number (is ∙ ex.rolls-Int number)
nothing x (Expr-F.«Expr::Text» bytes) is a q i t b m n k c o s l g = t bytes (is ∙ ex.rolls-Text bytes)
nothing x (Expr-F.«Expr::Truth» truth) is a q i t b m n k c o s l g = b truth (is ∙ ex.rolls-Truth truth)
nothing x Expr-F.«Expr::Me» is a q i t b m n k c o s l g = m (is ∙ ex.rolls-Me)
nothing x (Expr-F.«Expr::Name» name) is a q i t b m n k c o s l g = n name (is ∙ ex.rolls-Name name)
nothing x Expr-F.Clock is a q i t b m n k c o s l g = k (is ∙ ex.rolls-Clock)
nothing x (Expr-F.Range y z) is a q i t b m n k c o s l g = a.no_range y z (is ∙ ex.rolls-Range y z)
nothing x (Expr-F.«Expr::Tuple» xs) is a q i t b m n k c o s l g = a.no_tuple xs (is ∙ ex.rolls-Tuple xs)
nothing x (Expr-F.SetOf xs) is a q i t b m n k c o s l g = a.no_set xs (is ∙ ex.rolls-SetOf xs)
nothing x (Expr-F.Comp y gens cond) is a q i t b m n k c o s l g = c y gens cond (is ∙ ex.rolls-Comp y gens cond)
nothing x (Expr-F.Count y) is a q i t b m n k c o s l g = o y (is ∙ ex.rolls-Count y)
nothing x (Expr-F.Sum y) is a q i t b m n k c o s l g = s y (is ∙ ex.rolls-Sum y)
nothing x (Expr-F.Min y z) is a q i t b m n k c o s l g = l y z (is ∙ ex.rolls-Min y z)
nothing x (Expr-F.Max y z) is a q i t b m n k c o s l g = g y z (is ∙ ex.rolls-Max y z)

pub nothing_left : (x : Expr) → IsAlone x → NoQuant x → NoInt x → NoText x → NoTruth x → NoMe x → NoName x → NoClock x → NoComp x → NoCount x → NoSum x → NoMin x → NoMax x → ⊥
nothing_left x a q i t b m n k c o s l g = nothing x (out-Expr x) (sym (roll-out-Expr x)) a q i t b m n k c o s l g
