-- A message that a statement sends has the tag that is written in it, and goes to the processes of its second expression.
use Rattle.std.specs.Prelude.{◌≡◌, refl, ℕ, ◌≤◌, Bool, true, false, ◌&&◌, ◌||◌, List, [], ◌∷◌, map, length, Some, Ok, Err}
use Rattle.std.proofs.Common.{◌∙◌, ap, sym, subst, inl, inr}
use Rattle.std.proofs.lemmas.Bool.{false≢true, and_from}
use Rattle.da_values.specs.declared.val.Val.{Val, out-Val}
use Rattle.da_values.specs.declared.val.Val.TheVariants as val
use Rattle.da_values.specs.declared.val.Val.TheOpen as vo
use Rattle.da_values.specs.declared.val.Val.TheOpen.{Val-F}
use Rattle.da_values.specs.declared.value.Value.TheVariants as kept
use Rattle.da_values.specs.Narrow.{is_narrow}
use Rattle.da_values.specs.Nesting.{nesting}
use Rattle.da_values.specs.Sets.{Has}
use Rattle.da_values.specs.Views.{proc_of}
use Rattle.da_values.proofs.Members.{of_map}
use Rattle.da_values.proofs.ViewLaws.{proc_of-Proc}
use Rattle.da_lang.specs.declared.program.ChainPart.{ChainPart}
use Rattle.da_lang.specs.declared.program.Program.{Program}
use Rattle.da_lang.specs.declared.program.RExpr.{RExpr, out-RExpr, roll-RExpr, roll-out-RExpr}
use Rattle.da_lang.specs.declared.program.RExpr.TheVariants as re
use Rattle.da_lang.specs.declared.program.RExpr.TheOpen as ro
use Rattle.da_lang.specs.declared.program.RExpr.TheOpen.{RExpr-F}
use Rattle.da_lang.specs.declared.query.Query.{Query}
use Rattle.da_lang.specs.declared.ty.Ty.{Ty, out-Ty, roll-Ty, roll-out-Ty}
use Rattle.da_lang.specs.declared.ty.Ty.TheVariants as t
use Rattle.da_lang.specs.declared.ty.Ty.TheOpen as to
use Rattle.da_lang.specs.declared.ty.Ty.TheOpen.{Ty-F}
use Rattle.da_lang.specs.Arithmetic.{Outcome}
use Rattle.da_lang.specs.Evaluation.{Outcomes, after_all, in_order, with_first, eval}
use Rattle.da_lang.specs.QueryTypes.{Known, given, holds_of, declared, message_type}
use Rattle.da_lang.specs.Shaped.{IsProcess, as_tag, tag_of, is_declared, has_processes, well_typed}
use Rattle.da_lang.specs.Turns.{recipients, recipients_in}
use Rattle.da_lang.specs.Types.{is_of, is_proc, proc_in, proc_value, element_of}
use Rattle.da_lang.specs.Typing.{text_part, message_tag}
use Rattle.da_lang.specs.World.{Data}
use Rattle.da_lang.proofs.EvaluationLaws.{eval-Const, eval-Tuple}
use Rattle.da_lang.proofs.typing.TypesAt.{is_of_at-Proc}
use Rattle.da_types.proofs.shaped.Nested.{flat_nests}
use Rattle.da_types.proofs.shaped.Wholes.{WholeOf, set_parts, process_there}
use Rattle.da_types.proofs.totality.KindLaws.{holds_parts, set_type, from_layer}
use Rattle.da_types.proofs.totality.TermLaws.{flat_fits, flat_is}
use Rattle.da_types.proofs.totality.WholeValues.{Whole}

-- an expression with a tag is a tuple whose first part is the text
text_layer : (x : RExpr-F RExpr ChainPart) (tag : List ℕ) → text_part x ≡ Some tag → x ≡ ro.Const (kept.Text tag)
text_layer (ro.Const (kept.Text bytes)) tag e = cc
text_layer _ tag e = absurd (cc)

text_is : (x : RExpr) (tag : List ℕ) → text_part (out-RExpr x) ≡ Some tag → x ≡ re.Const (kept.Text tag)
text_is x tag e = sym (roll-out-RExpr x) ∙ ap roll-RExpr (text_layer (out-RExpr x) tag e) ∙ re.rolls-Const (kept.Text tag)

tag_layer : (x : RExpr-F RExpr ChainPart) (tag : List ℕ) → message_tag x ≡ Some tag → (y : RExpr) × (ys : List RExpr) × (x ≡ ro.Tuple (y ∷ ys)) × (text_part (out-RExpr y) ≡ Some tag)
tag_layer (ro.Tuple []) tag e = absurd (cc)
tag_layer (ro.Tuple (y ∷ ys)) tag e = (y, ys, refl, e)
tag_layer _ tag e = absurd (cc)

tagged_is : (x : RExpr) (tag : List ℕ) → message_tag (out-RExpr x) ≡ Some tag → (ys : List RExpr) × (x ≡ re.Tuple (re.Const (kept.Text tag) ∷ ys))
tagged_is x tag e =
    let (y, ys, is, text) = tag_layer (out-RExpr x) tag e in
    let made : x ≡ re.Tuple (y ∷ ys) = sym (roll-out-RExpr x) ∙ ap roll-RExpr is ∙ re.rolls-Tuple (y ∷ ys) in
    (ys, made ∙ ap (λ z. re.Tuple (z ∷ ys)) (text_is y tag text))

-- so its value has the tag
tag_of_text : (tag : List ℕ) (os : Outcomes) (v : Val) → ◌≡◌ {A = Outcome} (after_all (with_first (val.Text tag) os) (λ vs. Ok (val.Tuple vs))) (Ok v) → tag_of (out-Val v) ≡ Some tag
tag_of_text tag (Err kind) v e = absurd (cc)
tag_of_text tag (Ok vs) v e =
    let same : val.Tuple (val.Text tag ∷ vs) ≡ v = cc in
    ap (λ z. tag_of (out-Val z)) (sym same) ∙ ap tag_of (val.outs-Tuple (val.Text tag ∷ vs)) ∙ ap as_tag (val.outs-Text tag)

pub value_tag : (queries : List Query) (d : Data) (x : RExpr) (tag : List ℕ) (v : Val) → message_tag (out-RExpr x) ≡ Some tag → eval queries x d ≡ Ok v → tag_of (out-Val v) ≡ Some tag
value_tag queries d x tag v e is =
    let (ys, made) = tagged_is x tag e in
    let es = re.Const (kept.Text tag) ∷ ys in
    let whole : after_all (in_order (map (λ e. eval queries e d) es)) (λ vs. Ok (val.Tuple vs)) ≡ Ok v = sym (eval-Tuple queries d es) ∙ ap (λ z. eval queries z d) (sym made) ∙ is in
    let first = eval-Const queries d (kept.Text tag) in
    tag_of_text tag (in_order (map (λ e. eval queries e d) ys)) v (ap (λ o. after_all (in_order (o ∷ map (λ e. eval queries e d) ys)) (λ vs. Ok (val.Tuple vs))) (sym first) ∙ whole)

-- a value of the declared type of its tag is a message that may be delivered
pub message_typed : (p : Program) (known : Known) (tag : List ℕ) (ty : Ty) (v : Val) → known.messages ≡ p.messages → message_type known tag ≡ Some ty → tag_of (out-Val v) ≡ Some tag → WholeOf p ty v → well_typed p v ≡ true
message_typed p known tag ty v same e tagged one =
    let of_tag : declared p.messages tag ≡ Some ty = ap (λ ms. declared ms tag) (sym same) ∙ flat_is (declared known.messages tag) ty e in
    let is : is_declared p.messages v ≡ true = ap (λ z. holds_of (given z (declared p.messages)) (λ ty. is_of ty v)) tagged ∙ ap (λ z. holds_of z (λ ty. is_of ty v)) of_tag ∙ one.0 in
    and_from (is_declared p.messages v && is_narrow v) (has_processes (length p.procs) v) (and_from (is_declared p.messages v) (is_narrow v) is one.1.1) one.1.2

-- and in it at most 32 tuples and sets stand in one another
pub message_nested : (known : Known) (tag : List ℕ) (ty : Ty) (v : Val) → message_type known tag ≡ Some ty → is_of ty v ≡ true → nesting v ≤ 32
message_nested known tag ty v e is = flat_nests ty v (flat_fits (declared known.messages tag) ty e) is

-- the receivers
proc_type_layer : (x : Ty-F Ty) → proc_in x ≡ true → x ≡ to.Proc
proc_type_layer to.Proc e = refl
proc_type_layer _ e = absurd (false≢true e)

proc_type : (ty : Ty) → is_proc ty ≡ true → ty ≡ t.Proc
proc_type ty e = sym (roll-out-Ty ty) ∙ ap roll-Ty (proc_type_layer (out-Ty ty) e) ∙ t.rolls-Proc

proc_layer : (x : Val-F Val) → proc_value x ≡ true → (q : ℕ) × (x ≡ vo.Proc q)
proc_layer (vo.Proc q) e = (q, refl)
proc_layer _ e = absurd (false≢true e)

proc_of_type : (v : Val) → is_of t.Proc v ≡ true → (q : ℕ) × (v ≡ val.Proc q)
proc_of_type v e =
    let (q, is) = proc_layer (out-Val v) (sym (is_of_at-Proc v) ∙ e) in
    (q, from_layer v (vo.Proc q) is ∙ val.rolls-Proc q)

module _ (p : Program) where
  one_there : (v : Val) → WholeOf p t.Proc v → IsProcess p (proc_of v)
  one_there v one =
      let (q, is) = proc_of_type v one.0 in
      subst (IsProcess p) (sym (ap proc_of is ∙ proc_of-Proc q)) (process_there p q (subst (Whole p) is one.1))

  of_one : (v : Val) → WholeOf p t.Proc v → (q : ℕ) → Has (recipients v) q → IsProcess p q
  of_one v one q h =
      let (r, is) = proc_of_type v one.0 in
      let among : Has (r ∷ []) q = subst (λ z. Has z q) (ap recipients is ∙ ap recipients_in (val.outs-Proc r)) h in
      let there : IsProcess p r = process_there p r (subst (Whole p) is one.1) in
      elim among [ inl same ↦ subst (IsProcess p) (sym same) there | inr none ↦ absurd none ]

  of_set : (v : Val) → WholeOf p (t.Set t.Proc) v → (q : ℕ) → Has (recipients v) q → IsProcess p q
  of_set v one q h =
      let (vs, is, each, up) = set_parts p t.Proc v one in
      let (u, among, same) = of_map proc_of vs q (subst (λ z. Has z q) (ap recipients is ∙ ap recipients_in (val.outs-Set vs)) h) in
      subst (IsProcess p) (sym same) (one_there u (each u among))

  by_type : (ty : Ty) (v : Val) (b : Bool) → is_proc ty ≡ b → (b || holds_of (element_of ty) is_proc) ≡ true → WholeOf p ty v → (q : ℕ) → Has (recipients v) q → IsProcess p q
  by_type ty v true is e one = of_one v (subst (λ z. WholeOf p z v) (proc_type ty is) one)
  by_type ty v false is e one =
      let (element, found, proc) = holds_parts (element_of ty) is_proc e in
      of_set v (subst (λ z. WholeOf p z v) (set_type ty element found ∙ ap t.Set (proc_type element proc)) one)

  pub receivers_there : (ty : Ty) (v : Val) → (is_proc ty || holds_of (element_of ty) is_proc) ≡ true → WholeOf p ty v → (q : ℕ) → Has (recipients v) q → IsProcess p q
  receivers_there ty v e one = by_type ty v (is_proc ty) refl e one
