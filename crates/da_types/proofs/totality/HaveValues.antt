-- Each query and each condition of an `await` of a typed program has a value, whatever is known that is shaped.
use Rattle.std.specs.Prelude.{◌≡◌, refl, ℕ, ℤ, Bool, true, false, if◌then◌else◌, List, [], Option, Some, None, is_some, Ok, Err}
use Rattle.std.specs.Option.{option_map}
use Rattle.std.proofs.Common.{◌∙◌, ap, sym, subst}
use Rattle.std.proofs.lemmas.Bool.{false≢true}
use Rattle.da_values.specs.declared.val.Val.{Val, out-Val}
use Rattle.da_values.specs.declared.val.Val.TheVariants as val
use Rattle.da_values.specs.declared.val.Val.TheOpen as vo
use Rattle.da_values.specs.declared.val.Val.TheOpen.{Val-F}
use Rattle.da_values.specs.declared.value.Value.TheVariants as kept
use Rattle.da_values.specs.Narrow.{is_i64, is_narrow}
use Rattle.da_values.specs.Sets.{Has}
use Rattle.da_values.proofs.FoldsAt.{is_narrow_of}
use Rattle.da_values.proofs.Members.{each_from_all}
use Rattle.da_lang.specs.declared.event.FaultKind.TheVariants.{Overflow}
use Rattle.da_lang.specs.declared.program.Class.{Class}
use Rattle.da_lang.specs.declared.program.ItemKind.TheViews.{out-Alt}
use Rattle.da_lang.specs.declared.program.Program.{Program}
use Rattle.da_lang.specs.declared.query.Agg.{Agg}
use Rattle.da_lang.specs.declared.query.AggOp.{AggOp}
use Rattle.da_lang.specs.declared.query.AggOp.TheVariants.{Count, Sum, Min, Max}
use Rattle.da_lang.specs.declared.query.Cond.{Cond}
use Rattle.da_lang.specs.declared.query.Cond.TheVariants as co
use Rattle.da_lang.specs.declared.query.Cond.TheViews.{out-Agg, roll-out-Agg}
use Rattle.da_lang.specs.declared.query.Query.{Query}
use Rattle.da_lang.specs.declared.query.Query.TheVariants as qu
use Rattle.da_lang.specs.declared.query.RGen.{RGen}
use Rattle.da_lang.specs.declared.query.Term.{Term}
use Rattle.da_lang.specs.declared.ty.Ty.{Ty}
use Rattle.da_lang.specs.declared.ty.Ty.TheVariants as t
use Rattle.da_lang.specs.Arithmetic.{fitted}
use Rattle.da_lang.specs.Evaluation.{asked, asked_layer}
use Rattle.da_lang.specs.Queries.{agg_value, holds, query_value, value_of_numbered, value_of_query, rows, term_set}
use Rattle.da_lang.specs.QueryTypes.{Known, Side, given, flat, written_cond, rows_where, query_type, agg_side, agg_type, cond_holds, term_type}
use Rattle.da_lang.specs.Shaped.{ShapedData}
use Rattle.da_lang.specs.Types.{is_of, is_flat, is_int}
use Rattle.da_lang.specs.Typing.{IsTyped, has_queries}
use Rattle.da_lang.specs.World.{Data, at_number}
use Rattle.da_lang.proofs.RowLaws.{terms_of_rows}
use Rattle.da_types.specs.Totality.{HasValue, AllHaveValues, NothingIsMissing, IsAnswer, QueryHas, counts, counts_by}
use Rattle.da_types.proofs.totality.Awaits.{condition_holds}
use Rattle.da_types.proofs.totality.FoundAt.{strict_holds-Quant}
use Rattle.da_types.proofs.totality.FoundConds.{agg_there, cond_there, each_cond_there, quant_there, set_there}
use Rattle.da_types.proofs.totality.Keeping.{Knows}
use Rattle.da_types.proofs.totality.KindLaws.{given_parts, when_parts, int_of_type, is_bool_value, from_layer}
use Rattle.da_types.proofs.totality.QueriesFit.{OtherGood, agg_typed, comp_fits, plain_is, rows_where_parts}
use Rattle.da_types.proofs.totality.QueriesKept.{GoodQuery, query_kept, written}
use Rattle.da_types.proofs.totality.Worlds.{narrow, known_here, knows_here, class_has, numbered_has}

module _ (known' : Known) (d : Data) (w : Knows narrow known' d) where
  abbrev good : (x : Term) → Unit {0}
  good x = tt

  quant_has : (each : Bool) (gens : List RGen) (b : Option Cond) (ty : Ty) → query_type known' (qu.Quant each gens b) ≡ Some ty → HasValue d (qu.Quant each gens b) ty (value_of_query d (qu.Quant each gens b))
  quant_has each gens b ty e =
      let (found, typed, is) = given_parts (rows_where known' gens (written_cond known' b) []) (λ row. Some t.Bool) ty e in
      let same : t.Bool ≡ ty = cc in
      let there = quant_there narrow good known' d w each gens b (each_cond_there narrow good known' d w b) [] found [] (ap (λ z. rows_where known' gens z []) (sym (written known' b)) ∙ typed) tt in
      record {
        strict = ap (λ z. given z (λ v. Some (val.Bool v))) (sym (strict_holds-Quant d [] each gens b) ∙ there);
        typed = subst (λ z. is_of z (val.Bool (holds d (co.Quant each gens b) [])) ≡ true) same (is_bool_value (holds d (co.Quant each gens b) []));
        narrow = λ f. narrow.truth (holds d (co.Quant each gens b) []);
      }

  comp_has : (x : Term) (gens : List RGen) (b : Option Cond) (ty : Ty) → query_type known' (qu.Comp x gens b) ≡ Some ty → HasValue d (qu.Comp x gens b) ty (value_of_query d (qu.Comp x gens b))
  comp_has x gens b ty e =
      let (element, over, deep) = given_parts (given (rows_where known' gens (written_cond known' b) []) (term_type known' x)) (λ ty. flat (t.Set ty)) ty e in
      let (found, typed, of_term) = given_parts (rows_where known' gens (written_cond known' b) []) (term_type known' x) element over in
      let (row_is, cond_is) = rows_where_parts known' gens (option_map (cond_holds known') b) [] found (ap (λ z. rows_where known' gens z []) (sym (written known' b)) ∙ typed) in
      let (small, same) = when_parts (is_flat (t.Set element)) (t.Set element) ty deep in
      let fit = comp_fits narrow known' d w x gens b found element row_is of_term tt in
      let there = set_there narrow good known' d w gens b (each_cond_there narrow good known' d w b) x [] found [] element row_is cond_is of_term tt in
      record {
        strict = ap (λ z. given z (λ vs. Some (val.Set vs))) there ∙ ap (λ vs. Some (val.Set vs)) (terms_of_rows d x gens b []);
        typed = subst (λ z. is_of z (val.Set (term_set d x (rows d gens b []))) ≡ true) same fit.0;
        narrow = λ f. fit.1;
      }

  trivially : (q : Query) → GoodQuery narrow q
  trivially (qu.Quant each gens b) = tt
  trivially (qu.Comp x gens b) = tt
  trivially (qu.Agg a) = (tt, trivially_other (out-Agg a).other)
    where
      trivially_other : (o : Option Term) → OtherGood narrow o
      trivially_other None = tt
      trivially_other (Some x) = tt

  agg_has : (a : Agg) (ty : Ty) → query_type known' (qu.Agg a) ≡ Some ty → HasValue d (qu.Agg a) ty (value_of_query d (qu.Agg a))
  agg_has a ty e =
      let (side, typed, is) = given_parts (agg_side known' a []) (λ side. Some side.ty) ty e in
      let same : side.ty ≡ ty = cc in
      let there = agg_there narrow good known' d w a [] [] side typed tt in
      record {
        strict = there.0;
        typed = subst (λ z. is_of z (agg_value d a []) ≡ true) same there.1;
        narrow = λ f. query_kept narrow known' d w (qu.Agg a) ty e (trivially (qu.Agg a)) f;
      }

  pub query_has : (q : Query) (ty : Ty) → query_type known' q ≡ Some ty → HasValue d q ty (value_of_query d q)
  query_has (qu.Quant each gens b) ty e = quant_has each gens b ty e
  query_has (qu.Comp x gens b) ty e = comp_has x gens b ty e
  query_has (qu.Agg a) ty e = agg_has a ty e

  -- a `count` and a `sum` are of the type `int`
  side_counted : (op : AggOp) (ty : Ty) (other : Option Ty) (side : Side) → agg_type op ty other ≡ Some side → counts_by op ≡ true → side.ty ≡ t.Int
  side_counted Count ty other side e c = sym (plain_is t.Int side e)
  side_counted Sum ty other side e c = ap (λ (z : Side). z.ty) (sym (when_parts (is_int ty) _ side e).1)
  side_counted Min ty other side e c = absurd (false≢true c)
  side_counted Max ty other side e c = absurd (false≢true c)

  agg_counted : (a : Agg) (side : Side) → agg_side known' a [] ≡ Some side → counts_by (out-Agg a).op ≡ true → side.ty ≡ t.Int
  agg_counted a side e c =
      let r = out-Agg a in
      let typed = agg_typed narrow known' d w r.op r.gens r.cond r.term r.other [] side (ap (λ z. agg_side known' z []) (roll-out-Agg a) ∙ e) in
      side_counted r.op typed.ty _ side typed.aggregate' c

  counted_int : (q : Query) (ty : Ty) → query_type known' q ≡ Some ty → counts q ≡ true → ty ≡ t.Int
  counted_int (qu.Quant each gens b) ty e c = absurd (false≢true c)
  counted_int (qu.Comp x gens b) ty e c = absurd (false≢true c)
  counted_int (qu.Agg a) ty e c =
      let (side, typed, is) = given_parts (agg_side known' a []) (λ side. Some side.ty) ty e in
      let same : side.ty ≡ ty = cc in
      sym same ∙ agg_counted a side typed c

  -- what an expression that asks a query gives
  number_answer : (q : Query) (z : ℤ) → (counts q ≡ false → is_narrow (val.Int z) ≡ true) → (b : Bool) → is_i64 z ≡ b → (c : Bool) → counts q ≡ c → IsAnswer q (val.Int z) (if b then Ok (val.Int z) else Err Overflow)
  number_answer q z small true is c counted = (refl, is_narrow_of (kept.Int z) ∙ is)
  number_answer q z small false is true counted = (refl, counted, is_narrow_of (kept.Int z) ∙ is)
  number_answer q z small false is false counted = absurd (false≢true (sym is ∙ sym (is_narrow_of (kept.Int z)) ∙ small counted))

  plain_answer : (q : Query) (v : Val) → is_narrow v ≡ true → counts q ≡ false → (x : Val-F Val) → out-Val v ≡ x → IsAnswer q v (asked_layer x v)
  plain_answer q v small c (vo.Int z) is =
      let same : v ≡ val.Int z = from_layer v (vo.Int z) is ∙ val.rolls-Int z in
      subst (λ u. IsAnswer q u (fitted z)) (sym same) (number_answer q z (λ f. subst (λ u. is_narrow u ≡ true) same small) (is_i64 z) refl false c)
  plain_answer q v small c _ is = (refl, small)

  answer_by : (q : Query) (ty : Ty) (v : Val) → query_type known' q ≡ Some ty → HasValue d q ty v → (c : Bool) → counts q ≡ c → IsAnswer q v (asked v)
  answer_by q ty v e has false c = plain_answer q v (has.narrow c) c (out-Val v) refl
  answer_by q ty v e has true c =
      let (z, same) = int_of_type v (subst (λ u. is_of u v ≡ true) (counted_int q ty e c) has.typed) in
      subst (λ u. IsAnswer q u (asked u)) (sym same) (rw (val.outs-Int z) (number_answer q z (λ f. absurd (false≢true (sym f ∙ c))) (is_i64 z) refl true c))

  pub query_answer : (q : Query) (ty : Ty) → query_type known' q ≡ Some ty → IsAnswer q (value_of_query d q) (asked (value_of_query d q))
  query_answer q ty e = answer_by q ty (value_of_query d q) e (query_has q ty e) (counts q) refl

there_is : {A : Type 0} (x : Option A) → is_some x ≡ true → (a : A) × (x ≡ Some a)
there_is None e = absurd (false≢true e)
there_is (Some a) e = (a, refl)

module _ (p : Program) (c : Class) (d : Data) (typed : IsTyped p) (s : ShapedData p c d) where
  abbrev here : Known
  here = known_here p c d s

  has_type : (q : Query) → Has c.queries q → (ty : Ty) × (query_type here q ≡ Some ty)
  has_type q h =
      let in_class = each_from_all (has_queries p.messages) p.classes c typed.asked (class_has p d.me c s.is_class) in
      there_is (query_type here q) (each_from_all (λ q. is_some (query_type here q)) c.queries q in_class h)

  numbered_query : (n : ℕ) (q : Query) → at_number c.queries n ≡ Some q → QueryHas p c d q (query_value c.queries n d)
  numbered_query n q e =
      let (ty, is) = has_type q (numbered_has c.queries n q e) in
      let k = knows_here p c d s in
      subst (QueryHas p c d q) (sym (ap (value_of_numbered d) e)) (ty, is, query_has here d k q ty is, query_answer here d k q ty is)

  all_have_values : AllHaveValues p c d
  all_have_values = record {
    queries = numbered_query;
    conditions = λ i alts timeout label a is await h. cond_there narrow (λ x. tt) here d (knows_here p c d s) (out-Alt a).cond [] [] (condition_holds p c typed.keeps (class_has p d.me c s.is_class) i is alts a await h) tt;
  }

-- THE THEOREM OF TYPES
pub nothing_is_missing : (p : Program) → IsTyped p → NothingIsMissing p
nothing_is_missing p typed c d s = all_have_values p c d typed s
