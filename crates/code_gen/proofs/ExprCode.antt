-- The code that is added for expressions.
use Rattle.std.proofs.Common.{◌≡◌, ℕ, ◌+◌, ◌-◌, ◌<◌, ◌≤◌, Bool, true, false, not, List, [], ◌∷◌, ◌++◌, length, map, take, get_or, append_assoc, Some, None, refl, sym, ap, ◌∙◌, subst, arith}
use Rattle.std.specs.List.{AllByRecursion}
use Rattle.std.proofs.lemmas.List.{append-nil, map-append, take_all, take_more}
use Rattle.da_values.specs.declared.val.Val.TheVariants as val
use Rattle.da_values.specs.declared.value.Value.{Value}
use Rattle.da_values.specs.declared.value.Value.TheVariants as kept
use Rattle.da_values.specs.Order.{val_cmp}
use Rattle.da_values.specs.Sets.{set_image}
use Rattle.da_values.specs.Value.{val_of}
use Rattle.da_lang.specs.declared.code.Instr.{Instr}
use Rattle.da_lang.specs.declared.code.Instr.TheVariants as op
use Rattle.da_lang.specs.declared.program.BindArg.{BindArg}
use Rattle.da_lang.specs.declared.program.ChainPart.{ChainPart}
use Rattle.da_lang.specs.declared.program.RExpr.{RExpr}
use Rattle.da_lang.specs.declared.program.RExpr.TheVariants as ex
use Rattle.da_lang.specs.declared.program.RExpr.TheViews.{out-ChainPart}
use Rattle.da_lang.specs.declared.tree.CmpOp.{CmpOp}
use Rattle.da_lang.specs.Turns.{value_of_arg}
use Rattle.da_machine.specs.declared.code.Code.{Code}
use Rattle.da_machine.specs.CodeFor.{Has, jump_at, ExprAt, ExprsAt, TestsAt, PartsAt, StoresAt, FoundAt}
use Rattle.code_gen.specs.Made.{AreAfter, Grown, MadeDoing, MadeExpr, MadeExprs, MadeFound, MadeParts, MadeStores, added, deciding, end_of, filled, patched}
use Rattle.code_gen.proofs.Growing.{AreHoles, fill_end, fill_grown, fill_has, fill_keeps, grown_none, grown_on, holes_may_be, patch_end, patch_grown, patch_has, patch_keeps, put_end, put_grown, put_has, stays_has}
use Rattle.code_gen.proofs.Kept.{Keeps, grown_keeps, keeps_on, kept_expr, kept_exprs, kept_parts, kept_stores}

-- one instruction alone
alone : (a b : Code) (i : Instr) (e : RExpr) → b ≡ added a i → ((code : Code) (at : ℕ) → Has code at i → ExprAt code at e (at + 1)) → MadeExpr a b e
alone a b i e is build = record { grown = put_grown a b i is; stands = subst (λ n. ExprAt b (end_of a) e n) (sym (put_end a b i is)) (build b (end_of a) (put_has a b i is)) }

pub made_const : (a b : Code) (v : Value) → b ≡ added a (op.Push v) → MadeExpr a b (ex.Const v)
made_const a b v is = alone a b _ _ is (λ code at has. ExprAt.constant has)

pub made_procs : (a b : Code) (v : Value) (ps : List ℕ) → val_of v ≡ val.Set (set_image val_cmp val.Proc ps) → b ≡ added a (op.Push v) → MadeExpr a b (ex.Procs ps)
made_procs a b v ps set is = alone a b _ _ is (λ code at has. ExprAt.processes has set)

pub made_me : (a b : Code) → b ≡ added a op.Me → MadeExpr a b ex.Me
made_me a b is = alone a b _ _ is (λ code at has. ExprAt.itself has)

pub made_slot : (a b : Code) (s : ℕ) → b ≡ added a (op.Slot s) → MadeExpr a b (ex.Slot s)
made_slot a b s is = alone a b _ _ is (λ code at has. ExprAt.slot has)

pub made_clock : (a b : Code) → b ≡ added a op.Clock → MadeExpr a b ex.Clock
made_clock a b is = alone a b _ _ is (λ code at has. ExprAt.clock has)

pub made_ask : (a b : Code) (n : ℕ) → b ≡ added a (op.Ask n) → MadeExpr a b (ex.Ask n)
made_ask a b n is = alone a b _ _ is (λ code at has. ExprAt.question has)

-- an instruction after the values of two expressions
after_two : (a b c d : Code) (x y : RExpr) (i : Instr) (e : RExpr) → MadeExpr a b x → MadeExpr b c y → d ≡ added c i
    → ((code : Code) (at to end : ℕ) → ExprAt code at x to → ExprAt code to y end → Has code end i → ExprAt code at e (end + 1)) → MadeExpr a d e
after_two a b c d x y i e first second is build =
    let last = put_grown c d i is in
    let rest = grown_on b c d 0 0 second.grown last in
    record {
      grown = grown_on a b d 0 0 first.grown rest;
      stands = subst (λ n. ExprAt d (end_of a) e n) (sym (put_end c d i is))
          (build d (end_of a) (end_of b) (end_of c) (kept_expr b d (grown_keeps b d 0 rest) first.stands) (kept_expr c d (grown_keeps c d 0 last) second.stands) (put_has c d i is));
    }

pub made_range : (a b c d : Code) (x y : RExpr) → MadeExpr a b x → MadeExpr b c y → d ≡ added c op.Range → MadeExpr a d (ex.Range x y)
made_range a b c d x y first second is = after_two a b c d x y _ _ first second is (λ code at to end p q has. ExprAt.range p q has)

pub made_cmp : (a b c d : Code) (o : CmpOp) (x y : RExpr) → MadeExpr a b x → MadeExpr b c y → d ≡ added c (op.Cmp o) → MadeExpr a d (ex.Cmp o x y)
made_cmp a b c d o x y first second is = after_two a b c d x y _ _ first second is (λ code at to end p q has. ExprAt.comparison p q has)

pub made_member : (a b c d : Code) (x y : RExpr) → MadeExpr a b x → MadeExpr b c y → d ≡ added c op.Member → MadeExpr a d (ex.Member x y)
made_member a b c d x y first second is = after_two a b c d x y _ _ first second is (λ code at to end p q has. ExprAt.membership p q has)

pub made_not : (a b c : Code) (x : RExpr) → MadeExpr a b x → c ≡ added b op.Not → MadeExpr a c (ex.Not x)
made_not a b c x first is =
    let last = put_grown b c op.Not is in
    record {
      grown = grown_on a b c 0 0 first.grown last;
      stands = subst (λ n. ExprAt c (end_of a) (ex.Not x) n) (sym (put_end b c op.Not is)) (ExprAt.negation (kept_expr b c (grown_keeps b c 0 last) first.stands) (put_has b c op.Not is));
    }

-- several expressions
pub made_no_expr : (a : Code) → MadeExprs a a []
made_no_expr a = record { grown = grown_none a; stands = ExprsAt.none }

exprs_after : (c : Code) (at : ℕ) (es : List RExpr) (end : ℕ) → ExprsAt c at es end → (e : RExpr) (last : ℕ) → ExprAt c end e last → ExprsAt c at (es ++ e ∷ []) last
exprs_after c _ _ _ (ExprsAt.none {at}) e last x = ExprsAt.one x ExprsAt.none
exprs_after c _ _ _ (ExprsAt.one {at} {to} {end} {e = d} {es} y ys) e last x = ExprsAt.one y (exprs_after c to es end ys e last x)

made_exprs_after : (a b c : Code) (es : List RExpr) (e : RExpr) → MadeExprs a b es → MadeExpr b c e → MadeExprs a c (es ++ e ∷ [])
made_exprs_after a b c es e first last = record {
  grown = grown_on a b c 0 0 first.grown last.grown;
  stands = exprs_after c (end_of a) es (end_of b) (kept_exprs b c (grown_keeps b c 0 last.grown) first.stands) e (end_of c) last.stands;
}

pub made_exprs_next : (a b c : Code) (es : List RExpr) (k : ℕ) (e : RExpr) → k < length es → e ≡ get_or es k e → MadeExprs a b (take k es) → MadeExpr b c e → MadeExprs a c (take (k + 1) es)
made_exprs_next a b c es k e inside is first last =
    subst (MadeExprs a c) (sym (take_more es k e inside ∙ ap (λ x. take k es ++ x ∷ []) (sym is))) (made_exprs_after a b c (take k es) e first last)

pub made_tuple : (a b c : Code) (es : List RExpr) (n : ℕ) → MadeExprs a b es → n ≡ length es → c ≡ added b (op.Pack n) → MadeExpr a c (ex.Tuple es)
made_tuple a b c es n first many is =
    let last = put_grown b c (op.Pack n) is in
    record {
      grown = grown_on a b c 0 0 first.grown last;
      stands = subst (λ m. ExprAt c (end_of a) (ex.Tuple es) m) (sym (put_end b c (op.Pack n) is))
          (ExprAt.tuple (kept_exprs b c (grown_keeps b c 0 last) first.stands) (subst (λ m. Has c (end_of b) (op.Pack m)) many (put_has b c (op.Pack n) is)));
    }

pub made_set : (a b c : Code) (es : List RExpr) (n : ℕ) → MadeExprs a b es → n ≡ length es → c ≡ added b (op.Collect n) → MadeExpr a c (ex.SetOf es)
made_set a b c es n first many is =
    let last = put_grown b c (op.Collect n) is in
    record {
      grown = grown_on a b c 0 0 first.grown last;
      stands = subst (λ m. ExprAt c (end_of a) (ex.SetOf es) m) (sym (put_end b c (op.Collect n) is))
          (ExprAt.set (kept_exprs b c (grown_keeps b c 0 last) first.stands) (subst (λ m. Has c (end_of b) (op.Collect m)) many (put_has b c (op.Collect n) is)));
    }

-- chains
pub made_no_part : (a : Code) → MadeParts a a []
made_no_part a = record { grown = grown_none a; stands = PartsAt.last }

parts_after : (c : Code) (at : ℕ) (ps : List ChainPart) (end : ℕ) → PartsAt c at ps end → (p : ChainPart) (to : ℕ) → ExprAt c end (out-ChainPart p).operand to → Has c to (op.Arith (out-ChainPart p).op) → PartsAt c at (ps ++ p ∷ []) (to + 1)
parts_after c _ _ _ (PartsAt.last {at}) p to x has = PartsAt.part x has PartsAt.last
parts_after c _ _ _ (PartsAt.part {at} {to = mid} {end} {c = q} {cs = qs} y h ys) p to x has = PartsAt.part y h (parts_after c (mid + 1) qs end ys p to x has)

made_parts_after : (a b c d : Code) (ps : List ChainPart) (p : ChainPart) → MadeParts a b ps → MadeExpr b c (out-ChainPart p).operand → d ≡ added c (op.Arith (out-ChainPart p).op) → MadeParts a d (ps ++ p ∷ [])
made_parts_after a b c d ps p first operand is =
    let i = op.Arith (out-ChainPart p).op in
    let last = put_grown c d i is in
    let rest = grown_on b c d 0 0 operand.grown last in
    record {
      grown = grown_on a b d 0 0 first.grown rest;
      stands = subst (λ n. PartsAt d (end_of a) (ps ++ p ∷ []) n) (sym (put_end c d i is))
          (parts_after d (end_of a) ps (end_of b) (kept_parts b d (grown_keeps b d 0 rest) first.stands) p (end_of c) (kept_expr c d (grown_keeps c d 0 last) operand.stands) (put_has c d i is));
    }

pub made_parts_next : (a b c d : Code) (ps : List ChainPart) (k : ℕ) (p : ChainPart) → k < length ps → p ≡ get_or ps k p → MadeParts a b (take k ps) → MadeExpr b c (out-ChainPart p).operand → d ≡ added c (op.Arith (out-ChainPart p).op) → MadeParts a d (take (k + 1) ps)
made_parts_next a b c d ps k p inside at first operand is =
    subst (MadeParts a d) (sym (take_more ps k p inside ∙ ap (λ x. take k ps ++ x ∷ []) (sym at))) (made_parts_after a b c d (take k ps) p first operand is)

pub made_chain : (a b c : Code) (x : RExpr) (ps : List ChainPart) → MadeExpr a b x → MadeParts b c ps → MadeExpr a c (ex.Chain x ps)
made_chain a b c x ps first parts = record {
  grown = grown_on a b c 0 0 first.grown parts.grown;
  stands = ExprAt.chain (kept_expr b c (grown_keeps b c 0 parts.grown) first.stands) parts.stands;
}

-- operands with a hole after each, where its test comes
pub data OperandsAt (code : Code) : ℕ → List RExpr → ℕ → List ℕ → Type 0 where
  nothing : {at : ℕ} → OperandsAt code at [] at []
  operand : {at to end : ℕ} {e : RExpr} {es : List RExpr} {holes : List ℕ} → ExprAt code at e to → Has code to op.End → OperandsAt code (to + 1) es end holes → OperandsAt code at (e ∷ es) end (to ∷ holes)

pub record Operands (old new : Code) (es : List RExpr) (holes : List ℕ) : Type 0 where
  pub grown : Grown old new 0
  pub behind : AreAfter old holes
  pub stands : OperandsAt new (end_of old) es (end_of new) holes

operands_after : (c : Code) (at : ℕ) (es : List RExpr) (end : ℕ) (holes : List ℕ) → OperandsAt c at es end holes → (e : RExpr) (to : ℕ) → ExprAt c end e to → Has c to op.End → OperandsAt c at (es ++ e ∷ []) (to + 1) (holes ++ to ∷ [])
operands_after c _ _ _ _ (OperandsAt.nothing {at}) e to x has = OperandsAt.operand x has OperandsAt.nothing
operands_after c _ _ _ _ (OperandsAt.operand {at} {to = mid} {end} {e = d} {es} {holes} y h ys) e to x has = OperandsAt.operand y h (operands_after c (mid + 1) es end holes ys e to x has)

operands_stay : (c d : Code) (n at : ℕ) (es : List RExpr) (end : ℕ) (holes : List ℕ) → Grown c d n → OperandsAt c at es end holes → OperandsAt d at es end holes
operands_stay c d n _ _ _ _ grown (OperandsAt.nothing {at}) = OperandsAt.nothing
operands_stay c d n _ _ _ _ grown (OperandsAt.operand {at} {to} {end} {e} {es} {holes} x h xs) =
    OperandsAt.operand (kept_expr c d (grown_keeps c d n grown) x) (stays_has c d n to op.End grown h) (operands_stay c d n (to + 1) es end holes grown xs)

pub after_too : (a : Code) (places : List ℕ) (at : ℕ) → AreAfter a places → end_of a ≤ at → AreAfter a (places ++ at ∷ [])
after_too a [] at all here = (here, tt)
after_too a (p ∷ places) at all here = (all.0, after_too a places at all.1 here)

pub no_operand : (a : Code) (holes : List ℕ) → holes ≡ [] → Operands a a [] holes
no_operand a holes is = subst (Operands a a []) (sym is) (record { grown = grown_none a; behind = tt; stands = OperandsAt.nothing })

made_operand : (a b c d : Code) (es : List RExpr) (holes : List ℕ) (e : RExpr) → Operands a b es holes → MadeExpr b c e → d ≡ added c op.End → Operands a d (es ++ e ∷ []) (holes ++ end_of c ∷ [])
made_operand a b c d es holes e first value is =
    let last = put_grown c d op.End is in
    let rest = grown_on b c d 0 0 value.grown last in
    record {
      grown = grown_on a b d 0 0 first.grown rest;
      behind = after_too a holes (end_of c) first.behind (omega (arith, first.grown.instrs.longer, value.grown.instrs.longer));
      stands = subst (λ n. OperandsAt d (end_of a) (es ++ e ∷ []) n (holes ++ end_of c ∷ [])) (sym (put_end c d op.End is))
          (operands_after d (end_of a) es (end_of b) holes (operands_stay b d 0 (end_of a) es (end_of b) holes rest first.stands) e (end_of c) (kept_expr c d (grown_keeps c d 0 last) value.stands) (put_has c d op.End is));
    }

pub operands_next : (a b c d : Code) (es : List RExpr) (k : ℕ) (holes now : List ℕ) (hole : ℕ) (e : RExpr) → k < length es → e ≡ get_or es k e → Operands a b (take k es) holes → MadeExpr b c e → hole ≡ end_of c → now ≡ holes ++ hole ∷ [] → d ≡ added c op.End → Operands a d (take (k + 1) es) now
operands_next a b c d es k holes now hole e inside at first value place is end =
    subst (λ l. Operands a d l now) (sym (take_more es k e inside ∙ ap (λ x. take k es ++ x ∷ []) (sym at)))
    (subst (Operands a d (take k es ++ e ∷ [])) (sym (is ∙ ap (λ n. holes ++ n ∷ []) place)) (made_operand a b c d (take k es) holes e first value end))

pub operands_whole : (a b : Code) (es : List RExpr) (k : ℕ) (holes : List ℕ) → length es ≤ k → Operands a b (take k es) holes → Operands a b es holes
operands_whole a b es k holes past begun = subst (λ l. Operands a b l holes) (take_all k es past) begun

operand_holes : (c : Code) (at : ℕ) (es : List RExpr) (end : ℕ) (holes : List ℕ) → OperandsAt c at es end holes → AreHoles c holes
operand_holes c _ _ _ _ OperandsAt.nothing = tt
operand_holes c _ _ _ _ (OperandsAt.operand {at} {to} {end} {e} {es} {holes} x h xs) = (h, operand_holes c (to + 1) es end holes xs)

tests_written : (c d : Code) (b : Bool) (decided at : ℕ) (es : List RExpr) (end : ℕ) (holes : List ℕ) → OperandsAt c at es end holes → Keeps c d → AllByRecursion (λ hole. Has d hole (jump_at b decided)) holes → TestsAt d b decided at es end
tests_written c d b decided _ _ _ _ OperandsAt.nothing keeps all = TestsAt.passed
tests_written c d b decided _ _ _ _ (OperandsAt.operand {at} {to} {end} {e} {es} {holes} x h xs) keeps all =
    TestsAt.test (kept_expr c d keeps x) all.0 (tests_written c d b decided (to + 1) es end holes xs keeps all.1)

decided_so : (code : Code) (b : Bool) (at : ℕ) (es : List RExpr) (end : ℕ) → TestsAt code b (end + 2) at es end → Has code end (op.Push (kept.Bool (not b))) → Has code (end + 1) (op.Jump (end + 3)) → Has code (end + 2) (op.Push (kept.Bool b)) → ExprAt code at (deciding b es) (end + 3)
decided_so code true at es end tests push jump other = ExprAt.disjunction tests push jump other
decided_so code false at es end tests push jump other = ExprAt.conjunction tests push jump other

-- the operands up to b, what is pushed where none decides, the way out, what is pushed where one decides, and the tests
pub made_tests : (a b c d e f g : Code) (v : Bool) (es : List RExpr) (holes places : List ℕ) (leave decided end : ℕ) → Operands a b es holes → places ≡ holes
    → c ≡ added b (op.Push (kept.Bool (not v))) → leave ≡ end_of c → d ≡ added c op.End → decided ≡ end_of d → e ≡ added d (op.Push (kept.Bool v))
    → end ≡ end_of e → f ≡ patched e leave (op.Jump end) → g ≡ filled f places (jump_at v decided) → MadeExpr a g (deciding v es)
made_tests a b c d e f g v es holes places leave decided end begun listed is_c is_leave is_d is_decided is_e is_end is_f filled_so =
    let i = jump_at v decided in
    let is_g : g ≡ filled f holes i = filled_so ∙ ap (λ l. filled f l i) listed in
    let out = op.Jump end in
    let bc = put_grown b c _ is_c in
    let cd = put_grown c d op.End is_d in
    let de = put_grown d e _ is_e in
    let ce = grown_on c d e 0 0 cd de in
    let be = grown_on b c e 0 0 bc ce in
    let end_c = put_end b c _ is_c in
    let end_d = put_end c d op.End is_d in
    let end_e = put_end d e _ is_e in
    let there : leave ≡ end_of b + 1 = omega (arith, is_leave, end_c) in
    let tested : decided ≡ end_of b + 2 = omega (arith, is_decided, end_d, end_c) in
    let last : end ≡ end_of b + 3 = omega (arith, is_end, end_e, end_d, end_c) in
    let hole : Has e leave op.End = subst (λ n. Has e n op.End) (sym is_leave) (stays_has d e 0 (end_of c) op.End de (put_has c d op.End is_d)) in
    let ef : Keeps e f = subst (Keeps e) (sym is_f) (patch_keeps e leave out hole) in
    let end_f : end_of f ≡ end_of e = ap end_of is_f ∙ patch_end e leave out in
    let bf : Grown b f 0 = subst (λ z. Grown b z 0) (sym is_f) (patch_grown b e 0 leave out be (omega (arith, there))) in
    let af = grown_on a b f 0 0 begun.grown bf in
    let at_f = operands_stay b f 0 (end_of a) es (end_of b) holes bf begun.stands in
    let may = holes_may_be i f holes (operand_holes f (end_of a) es (end_of b) holes at_f) in
    let fg : Keeps f g = subst (Keeps f) (sym is_g) (fill_keeps i f holes may) in
    let end_g : end_of g ≡ end_of f = ap end_of is_g ∙ fill_end i f holes in
    let eg = keeps_on e f g ef fg in
    let dg = keeps_on d e g (grown_keeps d e 0 de) eg in
    let cg = keeps_on c d g (grown_keeps c d 0 cd) dg in
    let written = subst (λ z. AllByRecursion (λ at. Has z at i) holes) (sym is_g) (fill_has i f holes may) in
    let tests = subst (λ n. TestsAt g v n (end_of a) es (end_of b)) tested (tests_written f g v decided (end_of a) es (end_of b) holes at_f fg written) in
    let none = cg.instrs (end_of b) (op.Push (kept.Bool (not v))) refl (put_has b c _ is_c) in
    let jump_f : Has f leave out = subst (λ z. Has z leave out) (sym is_f) (patch_has e leave out op.End hole) in
    let jump = subst (λ n. Has g n (op.Jump (end_of b + 3))) there (subst (λ n. Has g leave (op.Jump n)) last (fg.instrs leave out refl jump_f)) in
    let third : end_of d ≡ end_of b + 2 = omega (arith, end_d, end_c) in
    let one_e = subst (λ n. Has e n (op.Push (kept.Bool v))) third (put_has d e _ is_e) in
    let one = eg.instrs (end_of b + 2) (op.Push (kept.Bool v)) refl one_e in
    let whole : end_of b + 3 ≡ end_of g = omega (arith, end_g, end_f, end_e, end_d, end_c) in
    record {
      grown = subst (λ z. Grown a z 0) (sym is_g) (fill_grown i a f 0 holes af begun.behind);
      stands = subst (λ n. ExprAt g (end_of a) (deciding v es) n) whole (decided_so g v (end_of a) es (end_of b) tests none jump one);
    }

-- the row of a `some`
pub made_unbound : (a : Code) (slots : List ℕ) → MadeFound a a None slots
made_unbound a slots = record { grown = grown_none a; stands = FoundAt.unbound }

pub made_bound : (a b : Code) (n : ℕ) (slots : List ℕ) → b ≡ added a (op.Found n slots) → MadeFound a b (Some n) slots
made_bound a b n slots is = record { grown = put_grown a b _ is; stands = subst (λ m. FoundAt b (end_of a) (Some n) slots m) (sym (put_end a b _ is)) (FoundAt.bound (put_has a b _ is)) }

-- the turn of a statement, an expression, and what is done with its value
pub made_doing : (a b c d : Code) (line : ℕ) (e : RExpr) (i : Instr) → b ≡ added a (op.Turn line) → MadeExpr b c e → d ≡ added c i → MadeDoing a d line e i
made_doing a b c d line e i is_b value is_d =
    let ab = put_grown a b _ is_b in
    let cd = put_grown c d i is_d in
    let bd = grown_on b c d 0 0 value.grown cd in
    record {
      grown = grown_on a b d 0 0 ab bd;
      value_end = end_of c;
      turn = stays_has b d 0 (end_of a) _ bd (put_has a b _ is_b);
      value = subst (λ n. ExprAt d n e (end_of c)) (put_end a b _ is_b) (kept_expr c d (grown_keeps c d 0 cd) value.stands);
      doing = put_has c d i is_d;
      ends = put_end c d i is_d;
    }

-- the values of arguments
pub made_values_next : (a b c : Code) (args : List BindArg) (k : ℕ) (arg : BindArg) → k < length args → arg ≡ get_or args k arg → MadeExprs a b (map value_of_arg (take k args)) → MadeExpr b c arg.value → MadeExprs a c (map value_of_arg (take (k + 1) args))
made_values_next a b c args k arg inside is first last =
    let whole = take_more args k arg inside ∙ ap (λ x. take k args ++ x ∷ []) (sym is) in
    subst (MadeExprs a c) (sym (ap (map value_of_arg) whole ∙ map-append value_of_arg (take k args) (arg ∷ []))) (made_exprs_after a b c (map value_of_arg (take k args)) arg.value first last)

-- their slots, the last first
pub made_no_store : (a : Code) → MadeStores a a []
made_no_store a = record { grown = grown_none a; stands = StoresAt.stored }

pub made_store : (a b c : Code) (s : ℕ) (ss : List ℕ) → MadeStores a b ss → c ≡ added b (op.SetSlot s) → MadeStores a c (s ∷ ss)
made_store a b c s ss first is =
    let last = put_grown b c _ is in
    record {
      grown = grown_on a b c 0 0 first.grown last;
      stands = subst (λ n. StoresAt c (end_of a) (s ∷ ss) n) (sym (put_end b c _ is)) (StoresAt.store (kept_stores b c (grown_keeps b c 0 last) first.stands) (put_has b c _ is));
    }

-- what is still to be stored, and what was
pub record Storing (A : Type 0) (slot : A → ℕ) (args left : List A) (old new : Code) : Type 0 where
  pub done : List A
  pub whole : left ++ done ≡ args
  pub made : MadeStores old new (map slot done)

pub storing_begins : (A : Type 0) (slot : A → ℕ) (args : List A) (a : Code) → Storing A slot args args a a
storing_begins A slot args a = record { done = []; whole = append-nil args; made = made_no_store a }

pub storing_goes_on : (A : Type 0) (slot : A → ℕ) (args left : List A) (x d : A) (a b c : Code) → 1 ≤ length left → x ≡ get_or left (length left - 1) d → Storing A slot args left a b → c ≡ added b (op.SetSlot (slot x)) → Storing A slot args (take (length left - 1) left) a c
storing_goes_on A slot args left x d a b c some is so_far put =
    let n = length left - 1 in
    let inside : n < length left = omega (arith, some) in
    let whole : left ≡ take n left ++ x ∷ [] = sym (take_all (n + 1) left (omega (arith, some))) ∙ take_more left n d inside ∙ ap (λ y. take n left ++ y ∷ []) (sym is) in
    record {
      done = x ∷ so_far.done;
      whole = sym (append_assoc (take n left) (x ∷ []) so_far.done) ∙ ap (λ l. l ++ so_far.done) (sym whole) ∙ so_far.whole;
      made = made_store a b c (slot x) (map slot so_far.done) so_far.made put;
    }

pub storing_ends : (A : Type 0) (slot : A → ℕ) (args left : List A) (a b : Code) → left ≡ [] → Storing A slot args left a b → MadeStores a b (map slot args)
storing_ends A slot args left a b is so_far = subst (λ l. MadeStores a b (map slot l)) (ap (λ l. l ++ so_far.done) (sym is) ∙ so_far.whole) so_far.made

pub ruleset made_rules = (made_const, made_procs, made_me, made_slot, made_clock, made_ask, made_range, made_tuple, made_set, made_not, made_cmp, made_member, made_chain)
