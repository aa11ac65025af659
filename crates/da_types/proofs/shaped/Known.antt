-- In a typed program whose constants are there, what a process knows gives whole values to its expressions.
use Rattle.std.specs.Prelude.{◌≡◌, refl, ℕ, ◌<◌, ◌^◌, Bool, true, false, ℤ, List, [], length, Option, Some, Ok, Err}
use Rattle.std.proofs.Common.{◌∙◌, ap, sym, subst}
use Rattle.std.proofs.lemmas.Bool.{false≢true}
use Rattle.da_values.specs.declared.val.Val.{Val}
use Rattle.da_values.specs.declared.val.Val.TheVariants as val
use Rattle.da_values.specs.declared.value.Value.TheVariants as kept
use Rattle.da_values.specs.Narrow.{is_narrow}
use Rattle.da_values.specs.Sets.{Has}
use Rattle.da_values.proofs.FoldsAt.{is_narrow_of}
use Rattle.da_lang.specs.declared.program.Class.{Class}
use Rattle.da_lang.specs.declared.program.Program.{Program}
use Rattle.da_lang.specs.declared.query.AggOp.{AggOp}
use Rattle.da_lang.specs.declared.query.AggOp.TheVariants.{Count, Sum, Min, Max}
use Rattle.da_lang.specs.declared.query.Cond.TheViews.{out-Agg, roll-out-Agg}
use Rattle.da_lang.specs.declared.query.Query.{Query}
use Rattle.da_lang.specs.declared.query.Query.TheVariants as qu
use Rattle.da_lang.specs.declared.ty.Ty.{Ty}
use Rattle.da_lang.specs.Arithmetic.{Outcome}
use Rattle.da_lang.specs.Evaluation.{asked}
use Rattle.da_lang.specs.Queries.{agg_value, aggregate, query_value, value_of_numbered, value_of_query}
use Rattle.da_lang.specs.QueryTypes.{Known, given, query_type}
use Rattle.da_lang.specs.Shaped.{ShapedData}
use Rattle.da_lang.specs.Types.{is_of}
use Rattle.da_lang.specs.Typing.{IsTyped, known}
use Rattle.da_lang.specs.World.{Data, at_number, slot_of}
use Rattle.da_lang.proofs.QueryLaws.{agg-made}
use Rattle.da_types.specs.Constants.{ConstantsAreThere}
use Rattle.da_types.specs.Totality.{IsAnswer, counts, counts_by}
use Rattle.da_types.proofs.shaped.ExprValues.{Meets}
use Rattle.da_types.proofs.shaped.Wholes.{WholeOf, Gives, int_whole, from_is_of}
use Rattle.da_types.proofs.totality.HaveValues.{nothing_is_missing}
use Rattle.da_types.proofs.totality.KindLaws.{given_parts}
use Rattle.da_types.proofs.totality.WholeValues.{Whole, whole_query}
use Rattle.da_types.proofs.totality.Worlds.{class_has, numbered_has}

-- the facts of an accepted program on which its values rest
pub record IsWholeProgram (p : Program) : Type 0 where
  pub typed : IsTyped p
  pub few : length p.procs < 2 ^ 16
  pub constants : ConstantsAreThere p

-- a `count` and a `sum` give an integer
abbrev IsInt : Val → Type 0
IsInt v = (z : ℤ) × (v ≡ val.Int z)

counted_by : (op : AggOp) (other : Val) (vs : List Val) → counts_by op ≡ true → IsInt (aggregate op other vs)
counted_by Count other vs c = (_, refl)
counted_by Sum other vs c = (_, refl)
counted_by Min other vs c = absurd (false≢true c)
counted_by Max other vs c = absurd (false≢true c)

counted : (d : Data) (q : Query) → counts q ≡ true → IsInt (value_of_query d q)
counted d (qu.Quant each gens b) c = absurd (false≢true c)
counted d (qu.Comp x gens b) c = absurd (false≢true c)
counted d (qu.Agg a) c =
    let r = out-Agg a in
    let is = ap (λ z. agg_value d z []) (sym (roll-out-Agg a)) ∙ agg-made d [] r.op r.gens r.cond r.term r.other in
    subst IsInt (sym is) (counted_by r.op _ _ c)

module _ (p : Program) (c : Class) (d : Data) (f : IsWholeProgram p) (s : ShapedData p c d) where
  abbrev known_of : Known
  known_of = known p.messages c.queries c.slots

  -- where its integer lies in an i64, it is whole
  int_is_whole : (ty : Ty) (v : Val) → IsInt v → is_of ty v ≡ true → is_narrow v ≡ true → WholeOf p ty v
  int_is_whole ty v (z, is) typed narrow =
      let small = sym (is_narrow_of (kept.Int z)) ∙ ap is_narrow (sym is) ∙ narrow in
      (typed, subst (Whole p) (sym is) (int_whole p z small).1)

  answered : (q : Query) (ty : Ty) (v : Val) (o : Outcome) → IsAnswer q v o → (is_narrow v ≡ true → WholeOf p ty v) → Gives p ty o
  answered q ty v (Err kind) answer whole = tt
  answered q ty v (Ok w) (same, narrow) whole = subst (WholeOf p ty) (sym same) (whole narrow)

  in_class : Has p.classes c
  in_class = class_has p d.me c s.is_class

  value_by : (n : ℕ) (q : Query) (ty : Ty) → at_number c.queries n ≡ Some q → query_type known_of q ≡ Some ty → (b : Bool) → counts q ≡ b → is_of ty (query_value c.queries n d) ≡ true → is_narrow (query_value c.queries n d) ≡ true → WholeOf p ty (query_value c.queries n d)
  value_by n q ty is e false counts_not typed narrow =
      from_is_of p ty (query_value c.queries n d) (whole_query p f.few c d s n q ty is e (λ v h. f.constants.of_queries c q v in_class (numbered_has c.queries n q is) h) counts_not)
  value_by n q ty is e true counts_it typed narrow =
      int_is_whole ty (query_value c.queries n d) (subst IsInt (sym (ap (value_of_numbered d) is)) (counted d q counts_it)) typed narrow

  asked_gives : (n : ℕ) (ty : Ty) → given (at_number c.queries n) (query_type known_of) ≡ Some ty → Gives p ty (asked (query_value c.queries n d))
  asked_gives n ty e =
      let (q, is, of_type) = given_parts (at_number c.queries n) (query_type known_of) ty e in
      let (found, is_found, has, answer) = (nothing_is_missing p f.typed c d s).queries n q is in
      let both : ◌≡◌ {A = Option Ty} (Some found) (Some ty) = sym is_found ∙ of_type in
      let same : found ≡ ty = cc in
      answered q ty (query_value c.queries n d) (asked (query_value c.queries n d)) answer
      (value_by n q ty is of_type (counts q) refl (subst (λ z. is_of z (query_value c.queries n d) ≡ true) same has.typed))

  pub meets : Meets p known_of c.queries d
  meets = record {
    few = f.few;
    me = s.me;
    slots = λ slot ty e. from_is_of p ty (slot_of d slot) (s.slots slot ty e);
    clock = s.clock;
    asks = asked_gives;
  }
