-- What expressions demand, by their forms.
use Rattle.std.specs.Prelude.{◌≡◌, refl, ℕ, suc, ◌<◌, List, [], ◌∷◌, ◌++◌, map, flat_map, length}
use Rattle.std.proofs.Common.{◌∙◌, ap, ap₂, sym, arith, append_assoc}
use Rattle.da_values.specs.declared.value.Value.{Value}
use Rattle.da_lang.specs.declared.program.ChainPart.{ChainPart, out-ChainPart, roll-out-ChainPart}
use Rattle.da_lang.specs.declared.program.RExpr.{RExpr, out-RExpr, roll-RExpr, roll-out-RExpr}
use Rattle.da_lang.specs.declared.program.RExpr.TheVariants as re
use Rattle.da_lang.specs.declared.program.RExpr.TheFolds.{map-RExpr}
use Rattle.da_lang.specs.declared.program.RExpr.TheOpen.{RExpr-F}
use Rattle.da_lang.specs.declared.query.Query.{Query}
use Rattle.da_lang.specs.declared.tree.CmpOp.{CmpOp}
use Rattle.da_lang.specs.World.{at_number}
use Rattle.type_table.specs.declared.scheme.Scheme.{Scheme}
use Rattle.type_table.specs.declared.scheme.Scheme.TheVariants as s
use Rattle.type_demands.specs.declared.demand.Demand.TheVariants as d
use Rattle.type_demands.specs.Syms.{Sym, Context, demanding, flat_sym, same_as, tuple_sym, literal_sym}
use Rattle.type_demands.specs.Conds.{asked_sym}
use Rattle.type_demands.specs.Exprs.{ExprSym, FurtherSym, expr_sym, expr_sym_step, further_sym, further_asks, first_set, is_one, parts_ask, right_asks}
use Rattle.type_demands.specs.ExprLists.{sym_where, syms_in, truths_in, sames_in, others_in, first_set_in, right_in, further_in, elements_in, parts_in}
use Rattle.type_demands.proofs.ExprsAt.{sym-layer, sym-Const, sym-Procs, sym-Me, sym-Slot, sym-Clock, sym-Ask, sym-Range, sym-Tuple, sym-SetOf, sym-Or, sym-And, sym-Not, sym-Cmp, sym-Member, sym-Chain, further-of}
use Rattle.type_demands.proofs.Listed.{after_sym}
use Rattle.type_demands.proofs.PutLaws.{at_line-both}

module _ (context : Context) (queries : List Query) where
  abbrev S : RExpr → ExprSym
  S = expr_sym context queries

  abbrev F : ChainPart → FurtherSym
  F = further_sym context queries

  -- lists of expressions
  mapped_syms : (xs : List RExpr) → map (λ (e : ExprSym). e.itself) (map S xs) ≡ syms_in context queries xs
  mapped_syms [] = refl
  mapped_syms (x ∷ xs) = ap (λ zs. (S x).itself ∷ zs) (mapped_syms xs)

  mapped_truths : (xs : List RExpr) → flat_map (is_one d.Truth) (map S xs) ≡ truths_in context queries xs
  mapped_truths [] = refl
  mapped_truths (x ∷ xs) = ap (λ ds. demanding d.Truth (S x).itself ++ ds) (mapped_truths xs)

  mapped_sames : (asked : Scheme) (xs : List RExpr) → flat_map (λ (e : ExprSym). same_as asked e.itself) (map S xs) ≡ sames_in context queries asked xs
  mapped_sames asked [] = refl
  mapped_sames asked (x ∷ xs) = ap (λ ds. same_as asked (S x).itself ++ ds) (mapped_sames asked xs)

  mapped_set : (xs : List RExpr) → first_set (map S xs) ≡ first_set_in context queries xs
  mapped_set [] = refl
  mapped_set (x ∷ xs) = ap (λ ds. flat_sym (record { demands = (S x).itself.demands ++ ds; scheme = s.Set (S x).itself.scheme })) (mapped_sames (S x).itself.scheme xs)

  pub no_others : (asked : Scheme) (xs : List RExpr) → length xs < 1 → others_in context queries asked xs ≡ []
  no_others asked [] below = refl
  no_others asked (x ∷ xs) below = absurd (let none : suc (length xs) < 1 = below in omega (arith, none))

  mapped_elements : (element : Scheme) (xs : List RExpr) → flat_map (λ (e : ExprSym). e.fits element) (map S xs) ≡ elements_in context queries element xs
  mapped_elements element [] = refl
  mapped_elements element (x ∷ xs) = ap (λ ds. (S x).fits element ++ ds) (mapped_elements element xs)

  mapped_parts : (at count : ℕ) (asked : Scheme) (xs : List RExpr) → parts_ask at count asked (map S xs) ≡ parts_in context queries at count asked xs
  mapped_parts at count asked [] = refl
  mapped_parts at count asked (x ∷ xs) = ap (λ ds. (S x).fits (s.Part asked at count) ++ ds) (mapped_parts (suc at) count asked xs)

  mapped_count : (xs : List RExpr) → length (map S xs) ≡ length xs
  mapped_count [] = refl
  mapped_count (x ∷ xs) = ap suc (mapped_count xs)

  further_is : (p : ChainPart) → F p ≡ record { op = (out-ChainPart p).op; sym = S (out-ChainPart p).operand }
  further_is p = ap F (sym (roll-out-ChainPart p)) ∙ further-of context queries (out-ChainPart p).op (out-ChainPart p).operand

  mapped_further : (first : Scheme) (more : List ChainPart) → flat_map (further_asks first) (map F more) ≡ further_in context queries first more
  mapped_further first [] = refl
  mapped_further first (p ∷ more) = ap₂ (λ (y : FurtherSym) ds. further_asks first y ++ ds) (further_is p) (mapped_further first more)

  -- by themselves
  abbrev by_itself : ExprSym → Sym
  by_itself e = e.itself

  pub own-Const : (value : Value) → (S (re.Const value)).itself ≡ flat_sym (literal_sym value)
  own-Const value = ap by_itself (sym-Const context queries value)

  pub own-Procs : (processes : List ℕ) → (S (re.Procs processes)).itself ≡ record { demands = [] ++ d.Flat (s.Set s.Proc) ∷ []; scheme = s.Set s.Proc }
  own-Procs processes = ap by_itself (sym-Procs context queries processes)

  pub own-Me : (S re.Me).itself ≡ record { demands = [] ++ d.Flat s.Proc ∷ []; scheme = s.Proc }
  own-Me = ap by_itself (sym-Me context queries)

  pub own-Slot : (slot : ℕ) → (S (re.Slot slot)).itself ≡ flat_sym (context.slot slot)
  own-Slot slot = ap by_itself (sym-Slot context queries slot)

  pub own-Clock : (S re.Clock).itself ≡ record { demands = [] ++ d.Flat s.Int ∷ []; scheme = s.Int }
  own-Clock = ap by_itself (sym-Clock context queries)

  pub own-Ask : (query : ℕ) → (S (re.Ask query)).itself ≡ flat_sym (asked_sym context (at_number queries query))
  own-Ask query = ap by_itself (sym-Ask context queries query)

  pub own-Range : (x y : RExpr) → (S (re.Range x y)).itself ≡ after_sym (demanding d.Int (S x).itself) (flat_sym (sym_where (demanding d.Int (S y).itself) (s.Set s.Int)))
  own-Range x y =
      ap by_itself (sym-Range context queries x y)
      ∙ ap (λ ds. sym_where ds (s.Set s.Int)) (append_assoc (demanding d.Int (S x).itself) (demanding d.Int (S y).itself) (d.Flat (s.Set s.Int) ∷ []))

  pub own-Tuple : (xs : List RExpr) → (S (re.Tuple xs)).itself ≡ flat_sym (tuple_sym (syms_in context queries xs))
  own-Tuple xs = ap by_itself (sym-Tuple context queries xs) ∙ ap (λ zs. flat_sym (tuple_sym zs)) (mapped_syms xs)

  pub own-SetOf : (xs : List RExpr) → (S (re.SetOf xs)).itself ≡ first_set_in context queries xs
  own-SetOf xs = ap by_itself (sym-SetOf context queries xs) ∙ mapped_set xs

  pub own-Or : (xs : List RExpr) → (S (re.Or xs)).itself ≡ flat_sym (sym_where (truths_in context queries xs) s.Bool)
  own-Or xs = ap by_itself (sym-Or context queries xs) ∙ ap (λ ds. flat_sym (sym_where ds s.Bool)) (mapped_truths xs)

  pub own-And : (xs : List RExpr) → (S (re.And xs)).itself ≡ flat_sym (sym_where (truths_in context queries xs) s.Bool)
  own-And xs = ap by_itself (sym-And context queries xs) ∙ ap (λ ds. flat_sym (sym_where ds s.Bool)) (mapped_truths xs)

  pub own-Not : (x : RExpr) → (S (re.Not x)).itself ≡ flat_sym (sym_where (demanding d.Truth (S x).itself) s.Bool)
  own-Not x = ap by_itself (sym-Not context queries x)

  pub own-Cmp : (o : CmpOp) (x y : RExpr) → (S (re.Cmp o x y)).itself ≡ after_sym (S x).itself.demands (flat_sym (sym_where (right_in context queries o (S x).itself.scheme y) s.Bool))
  own-Cmp o x y =
      ap by_itself (sym-Cmp context queries o x y)
      ∙ ap (λ ds. sym_where ds s.Bool) (append_assoc (S x).itself.demands (right_asks o (S x).itself.scheme (S y)) (d.Flat s.Bool ∷ []))

  pub own-Member : (x y : RExpr) → (S (re.Member x y)).itself ≡ after_sym (S y).itself.demands (flat_sym (sym_where (same_as (s.Element (S y).itself.scheme) (S x).itself) s.Bool))
  own-Member x y =
      ap by_itself (sym-Member context queries x y)
      ∙ ap (λ ds. sym_where ds s.Bool) (append_assoc (S y).itself.demands (same_as (s.Element (S y).itself.scheme) (S x).itself) (d.Flat s.Bool ∷ []))

  pub own-Chain : (x : RExpr) (more : List ChainPart) → (S (re.Chain x more)).itself ≡ after_sym (S x).itself.demands (flat_sym (sym_where (further_in context queries (S x).itself.scheme more) (S x).itself.scheme))
  own-Chain x more =
      let scheme = (S x).itself.scheme in
      ap by_itself (sym-Chain context queries x more)
      ∙ ap (λ ds. sym_where (((S x).itself.demands ++ ds) ++ d.Flat scheme ∷ []) scheme) (mapped_further scheme more)
      ∙ ap (λ ds. sym_where ds scheme) (append_assoc (S x).itself.demands (further_in context queries scheme more) (d.Flat scheme ∷ []))

  -- in a place that asks for a type
  pub fits-Tuple : (xs : List RExpr) (asked : Scheme) → (S (re.Tuple xs)).fits asked ≡ d.Flat asked ∷ d.Width asked (length xs) ∷ parts_in context queries 0 (length xs) asked xs
  fits-Tuple xs asked =
      ap (λ (e : ExprSym). e.fits asked) (sym-Tuple context queries xs)
      ∙ ap (λ n. d.Flat asked ∷ d.Width asked n ∷ parts_ask 0 n asked (map S xs)) (mapped_count xs)
      ∙ ap (λ ds. d.Flat asked ∷ d.Width asked (length xs) ∷ ds) (mapped_parts 0 (length xs) asked xs)

  pub fits-SetOf : (xs : List RExpr) (asked : Scheme) → (S (re.SetOf xs)).fits asked ≡ d.Flat asked ∷ d.Elements asked ∷ elements_in context queries (s.Element asked) xs
  fits-SetOf xs asked =
      ap (λ (e : ExprSym). e.fits asked) (sym-SetOf context queries xs)
      ∙ ap (λ ds. d.Flat asked ∷ d.Elements asked ∷ ds) (mapped_elements (s.Element asked) xs)

  abbrev IsOwn : Scheme → ExprSym → Type 0
  IsOwn asked e = e.fits asked ≡ same_as asked e.itself

  by_layer : (asked : Scheme) (y : RExpr-F RExpr ChainPart) → IsOwn asked (expr_sym_step context queries (map-RExpr RExpr ChainPart ExprSym FurtherSym S F y)) → IsOwn asked (S (roll-RExpr y))
  by_layer asked y is =
      ap (λ (e : ExprSym). e.fits asked) (sym-layer context queries y) ∙ is ∙ sym (ap (λ (e : ExprSym). same_as asked e.itself) (sym-layer context queries y))

  fits_layer : (asked : Scheme) (x : RExpr) (y : RExpr-F RExpr ChainPart) → x ≡ roll-RExpr y → ((xs : List RExpr) → x ≡ re.Tuple xs → ⊥) → ((xs : List RExpr) → x ≡ re.SetOf xs → ⊥) → IsOwn asked (S (roll-RExpr y))
  fits_layer asked x (RExpr-F.Const v) is no_tuple no_set = by_layer asked (RExpr-F.Const v) refl
  fits_layer asked x (RExpr-F.Procs ps) is no_tuple no_set = by_layer asked (RExpr-F.Procs ps) refl
  fits_layer asked x RExpr-F.Me is no_tuple no_set = by_layer asked RExpr-F.Me refl
  fits_layer asked x (RExpr-F.Slot k) is no_tuple no_set = by_layer asked (RExpr-F.Slot k) refl
  fits_layer asked x RExpr-F.Clock is no_tuple no_set = by_layer asked RExpr-F.Clock refl
  fits_layer asked x (RExpr-F.Ask n) is no_tuple no_set = by_layer asked (RExpr-F.Ask n) refl
  fits_layer asked x (RExpr-F.Range a b) is no_tuple no_set = by_layer asked (RExpr-F.Range a b) refl
  fits_layer asked x (RExpr-F.Tuple xs) is no_tuple no_set = absurd (no_tuple xs (is ∙ re.rolls-Tuple xs))
  fits_layer asked x (RExpr-F.SetOf xs) is no_tuple no_set = absurd (no_set xs (is ∙ re.rolls-SetOf xs))
  fits_layer asked x (RExpr-F.Or xs) is no_tuple no_set = by_layer asked (RExpr-F.Or xs) refl
  fits_layer asked x (RExpr-F.And xs) is no_tuple no_set = by_layer asked (RExpr-F.And xs) refl
  fits_layer asked x (RExpr-F.Not a) is no_tuple no_set = by_layer asked (RExpr-F.Not a) refl
  fits_layer asked x (RExpr-F.Cmp o a b) is no_tuple no_set = by_layer asked (RExpr-F.Cmp o a b) refl
  fits_layer asked x (RExpr-F.Member a b) is no_tuple no_set = by_layer asked (RExpr-F.Member a b) refl
  fits_layer asked x (RExpr-F.Chain a more) is no_tuple no_set = by_layer asked (RExpr-F.Chain a more) refl

  -- what is neither a tuple nor a set has its type by itself
  pub fits-others : (x : RExpr) (asked : Scheme) → ((xs : List RExpr) → x ≡ re.Tuple xs → ⊥) → ((xs : List RExpr) → x ≡ re.SetOf xs → ⊥) → (S x).fits asked ≡ same_as asked (S x).itself
  fits-others x asked no_tuple no_set =
      ap (λ y. (S y).fits asked) (sym (roll-out-RExpr x)) ∙ fits_layer asked x (out-RExpr x) (sym (roll-out-RExpr x)) no_tuple no_set ∙ ap (λ y. same_as asked (S y).itself) (roll-out-RExpr x)

pub ruleset fit_rules = (fits-Tuple, fits-SetOf, at_line-both, append_assoc)
