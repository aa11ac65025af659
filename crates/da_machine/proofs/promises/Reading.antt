-- An expression that has a type, or fits one, reads slots and queries that are there.
use Rattle.std.specs.Prelude.{◌≡◌, refl, ℕ, Bool, true, ◌&&◌, List, [], ◌∷◌, map, Option, is_some}
use Rattle.std.specs.List.{AllByRecursion, list_all}
use Rattle.std.proofs.Common.{◌∙◌, ap, sym, subst, inl, inr}
use Rattle.std.proofs.lemmas.Bool.{and_from}
use Rattle.da_values.specs.Sets.{Has}
use Rattle.da_lang.specs.declared.program.ChainPart.{ChainPart}
use Rattle.da_lang.specs.declared.program.Class.{Class}
use Rattle.da_lang.specs.declared.program.Program.{Program}
use Rattle.da_lang.specs.declared.program.RExpr.{RExpr}
use Rattle.da_lang.specs.declared.program.RExpr.TheFolds.{fold_out-RExpr, map-RExpr}
use Rattle.da_lang.specs.declared.program.RExpr.TheOpen.{RExpr-F, ChainPart-F}
use Rattle.da_lang.specs.declared.program.RExpr.TheVariants as ex
use Rattle.da_lang.specs.declared.program.RExpr.TheViews.{out-RExpr, out-ChainPart, out-roll-ChainPart, roll-ChainPart}
use Rattle.da_lang.specs.declared.query.Query.{Query}
use Rattle.da_lang.specs.declared.tree.ArithOp.{ArithOp}
use Rattle.da_lang.specs.declared.ty.Ty.{Ty}
use Rattle.da_lang.specs.QueryTypes.{Known}
use Rattle.da_lang.specs.Typing.{known}
use Rattle.da_lang.proofs.ExprInduction.{Cases, expr_induction}
use Rattle.da_types.proofs.shaped.ExprParts.{Typable, slot_there, query_there, range_parts, tuple_parts, set_parts, or_parts, and_parts_of, not_part, cmp_parts, member_parts, chain_parts}
use Rattle.da_machine.specs.Promises.{AllRead}
use Rattle.da_machine.specs.Reads.{reads, reads_part, reads_step, reads_part_step}
use Rattle.da_machine.proofs.ReadLaws.{reads_part-is}

module _ (p : Program) (class : Class) where
  abbrev known_of : Known
  known_of = known p.messages class.queries class.slots

  -- it has a type in the class, or fits one
  abbrev pub HasSomeType : RExpr → Type 0
  HasSomeType x = Typable known_of class.queries x

  abbrev ExprReads : RExpr → Type 0
  ExprReads x = HasSomeType x → reads class x ≡ true

  abbrev PartReads : ChainPart → Type 0
  PartReads q = ExprReads (out-ChainPart q).operand

  -- one layer
  read_by : (x : RExpr) (layer : RExpr-F RExpr ChainPart) → out-RExpr x ≡ layer → reads_step class (map-RExpr RExpr ChainPart Bool Bool (reads class) (reads_part class) layer) ≡ true → reads class x ≡ true
  read_by x layer is holds =
      fold_out-RExpr Bool Bool (reads_step class) (reads_part_step class) x
      ∙ ap (λ y. reads_step class (map-RExpr RExpr ChainPart Bool Bool (reads class) (reads_part class) y)) is ∙ holds

  both_read : (a b : RExpr) → ExprReads a → ExprReads b → HasSomeType a × HasSomeType b → (reads class a && reads class b) ≡ true
  both_read a b first second (left, right) = and_from (reads class a) (reads class b) (first left) (second right)

  exprs_read : (xs : List RExpr) → AllByRecursion ExprReads xs → ((x : RExpr) → Has xs x → HasSomeType x) → list_all (λ e. e) (map (reads class) xs) ≡ true
  exprs_read [] each typable = refl
  exprs_read (x ∷ xs) each typable =
      and_from (reads class x) (list_all (λ e. e) (map (reads class) xs)) (each.0 (typable x (inl refl))) (exprs_read xs each.1 (λ y h. typable y (inr h)))

  parts_read : (qs : List ChainPart) → AllByRecursion PartReads qs → ((q : ChainPart) → Has qs q → HasSomeType (out-ChainPart q).operand) → list_all (λ e. e) (map (reads_part class) qs) ≡ true
  parts_read [] each typable = refl
  parts_read (q ∷ qs) each typable =
      and_from (reads_part class q) (list_all (λ e. e) (map (reads_part class) qs)) (reads_part-is class q ∙ each.0 (typable q (inl refl))) (parts_read qs each.1 (λ r h. typable r (inr h)))

  slot_case : (s : ℕ) → ExprReads (ex.Slot s)
  slot_case s typable = let (ty, is) = slot_there known_of class.queries s typable in read_by _ _ (ex.outs-Slot s) (ap (λ (o : Option Ty). is_some o) is)

  question_case : (n : ℕ) → ExprReads (ex.Ask n)
  question_case n typable = let (q, ty, there, has) = query_there known_of class.queries n typable in read_by _ _ (ex.outs-Ask n) (ap (λ (o : Option Query). is_some o) there)

  chain_case : (a : RExpr) (more : List ChainPart) → ExprReads a → AllByRecursion PartReads more → ExprReads (ex.Chain a more)
  chain_case a more one each typable =
      let (first, others) = chain_parts known_of class.queries a more typable in
      read_by _ _ (ex.outs-Chain a more) (and_from (reads class a) (list_all (λ e. e) (map (reads_part class) more)) (one first) (parts_read more each others))

  part_case : (o : ArithOp) (a : RExpr) → ExprReads a → PartReads (roll-ChainPart (record { op = o; operand = a }))
  part_case o a one = subst (λ (z : ChainPart-F RExpr ChainPart). ExprReads z.operand) (sym (out-roll-ChainPart (record { op = o; operand = a }))) one

  abbrev cases : Cases
  cases = record {
    Of_expr = ExprReads;
    Of_part = PartReads;
    constant = λ v typable. read_by _ _ (ex.outs-Const v) refl;
    processes = λ ps typable. read_by _ _ (ex.outs-Procs ps) refl;
    itself = λ typable. read_by _ _ ex.outs-Me refl;
    slot = slot_case;
    clock = λ typable. read_by _ _ ex.outs-Clock refl;
    question = question_case;
    range = λ a b first second typable. read_by _ _ (ex.outs-Range a b) (both_read a b first second (range_parts known_of class.queries a b typable));
    tuple = λ es each typable. read_by _ _ (ex.outs-Tuple es) (exprs_read es each (tuple_parts known_of class.queries es typable));
    set_of = λ es each typable. read_by _ _ (ex.outs-SetOf es) (exprs_read es each (set_parts known_of class.queries es typable));
    disjunction = λ es each typable. read_by _ _ (ex.outs-Or es) (exprs_read es each (or_parts known_of class.queries es typable));
    conjunction = λ es each typable. read_by _ _ (ex.outs-And es) (exprs_read es each (and_parts_of known_of class.queries es typable));
    negation = λ e one typable. read_by _ _ (ex.outs-Not e) (one (not_part known_of class.queries e typable));
    comparison = λ o a b first second typable. read_by _ _ (ex.outs-Cmp o a b) (both_read a b first second (cmp_parts known_of class.queries o a b typable));
    membership = λ a b first second typable. read_by _ _ (ex.outs-Member a b) (both_read a b first second (member_parts known_of class.queries a b typable));
    chain = chain_case;
    part = part_case;
  }

  pub typable_reads : (x : RExpr) → HasSomeType x → reads class x ≡ true
  typable_reads x = expr_induction cases x

  pub all_typable_read : (xs : List RExpr) → ((x : RExpr) → Has xs x → HasSomeType x) → AllRead class xs
  all_typable_read [] typable = tt
  all_typable_read (x ∷ xs) typable = (typable_reads x (typable x (inl refl)), all_typable_read xs (λ y h. typable y (inr h)))
