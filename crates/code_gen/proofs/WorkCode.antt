-- The code that is added for a statement.
use Rattle.std.proofs.Common.{◌≡◌, ℕ, ◌+◌, List, [], ◌∷◌, ◌++◌, length, map, Option, Some, None, refl, sym, ap, ◌∙◌, subst, arith, append-nil}
use Rattle.std.specs.Prelude.{flat_map, is_some, unwrap_or}
use Rattle.std.specs.List.{AllByRecursion}
use Rattle.da_lang.specs.declared.code.Instr.{Instr}
use Rattle.da_lang.specs.declared.code.Instr.TheVariants as op
use Rattle.da_lang.specs.declared.program.Alt.{Alt}
use Rattle.da_lang.specs.declared.program.BindArg.{BindArg}
use Rattle.da_lang.specs.declared.program.Class.{Class}
use Rattle.da_lang.specs.declared.program.Item.{Item}
use Rattle.da_lang.specs.declared.program.ItemKind.{ItemKind}
use Rattle.da_lang.specs.declared.program.ItemKind.TheOpen as kind
use Rattle.da_lang.specs.declared.program.ItemKind.TheOpen.{ItemKind-F}
use Rattle.da_lang.specs.declared.program.ItemKind.TheVariants as it
use Rattle.da_lang.specs.declared.program.ItemKind.TheViews.{out-Alt, out-Item, out-ItemKind}
use Rattle.da_lang.specs.declared.program.RBranch.{RBranch}
use Rattle.da_lang.specs.declared.program.RExpr.{RExpr}
use Rattle.da_lang.specs.Shaped.{blocks_in}
use Rattle.da_lang.specs.Turns.{kind_of, line_of, slot_of_arg, value_of_arg}
use Rattle.da_machine.specs.declared.code.Code.{Code}
use Rattle.da_machine.specs.CodeFor.{Has, BlockAt, BranchesAt, EnterAt, ExprAt, ExprsAt, ItemAt, LoopAt, WorkAt}
use Rattle.da_machine.specs.Points.{AtAwait, AtLabel, Points, ways_of, points_in}
use Rattle.code_gen.specs.declared.emit.OpenAwait.{OpenAwait}
use Rattle.code_gen.specs.Made.{AreNumbered, Awaiting, Grown, MadeAwait, MadeBlock, MadeBranches, MadeDoing, MadeExpr, MadeExprs, MadeItem, MadeLabel, MadeLoop, MadeStores, MadeWhile, added, alt_points, block_points, branch_points, closed, end_of, filled, patched}
use Rattle.code_gen.proofs.Growing.{fill_end, fill_grown, fill_has, fill_keeps, grown_on, holes_may_be, none_then, patch_end, patch_grown, patch_has, patch_keeps, put_end, put_grown, put_has, stays_has, then_none}
use Rattle.code_gen.proofs.ItemCode.{branch_holes, branches_written}
use Rattle.code_gen.proofs.Kept.{Keeps, grown_keeps, keeps_on, kept_block, kept_expr, kept_exprs, kept_stores}
use Rattle.code_gen.proofs.PointCode.{made_await}
use Rattle.code_gen.proofs.PointLaws.{after_numbers, await_points, front_numbers, grown_both, points_at, points_in_kind, same_numbers}
use Rattle.code_gen.proofs.ItemCode.{branches_stay}

-- a statement of one turn, from its kind
turned : (a b : Code) (i : Item) (k : ItemKind-F ItemKind Alt Item RBranch) (ps : Points) → kind_of i ≡ k → points_in_kind k ≡ ps → Grown a b (length ps) → Has b (end_of a) (op.Turn (line_of i))
    → ((class : Class) → AreNumbered class (length a.yields) ps → WorkAt b class (end_of a) (line_of i) k (end_of b)) → MadeItem a b i
turned a b i k ps is points grown turn work =
    let same : points_in i ≡ ps = points_at i ∙ ap points_in_kind is ∙ points in
    record {
      grown = subst (λ l. Grown a b (length l)) (sym same) grown;
      stands = λ class numbered. ItemAt.works turn (subst (λ f. WorkAt b class (end_of a) (line_of i) f (end_of b)) (sym is) (work class (subst (AreNumbered class (length a.yields)) same numbered)));
    }

-- something done with the value of an expression
done_with : (a b : Code) (i : Item) (k : ItemKind-F ItemKind Alt Item RBranch) (e : RExpr) (does : Instr) → kind_of i ≡ k → points_in_kind k ≡ [] → MadeDoing a b (line_of i) e does
    → ((class : Class) (end : ℕ) → ExprAt b (end_of a + 1) e end → Has b end does → WorkAt b class (end_of a) (line_of i) k (end + 1)) → MadeItem a b i
done_with a b i k e does is points made work =
    turned a b i k [] is points made.grown made.turn (λ class numbered. subst (λ n. WorkAt b class (end_of a) (line_of i) k n) (sym made.ends) (work class made.value_end made.value made.doing))

pub made_assign : (a b : Code) (i : Item) (s : ℕ) (e : RExpr) → (out-Item i).kind ≡ it.Assign s e → MadeDoing a b (line_of i) e (op.SetSlot s) → MadeItem a b i
made_assign a b i s e is made = done_with a b i (kind.Assign s e) e _ (ap out-ItemKind is ∙ it.outs-Assign s e) refl made (λ class end x h. WorkAt.assign x h)

pub made_add : (a b : Code) (i : Item) (s : ℕ) (e : RExpr) → (out-Item i).kind ≡ it.Add s e → MadeDoing a b (line_of i) e (op.Add s) → MadeItem a b i
made_add a b i s e is made = done_with a b i (kind.Add s e) e _ (ap out-ItemKind is ∙ it.outs-Add s e) refl made (λ class end x h. WorkAt.add x h)

pub made_del : (a b : Code) (i : Item) (s : ℕ) (e : RExpr) → (out-Item i).kind ≡ it.Del s e → MadeDoing a b (line_of i) e (op.Del s) → MadeItem a b i
made_del a b i s e is made = done_with a b i (kind.Del s e) e _ (ap out-ItemKind is ∙ it.outs-Del s e) refl made (λ class end x h. WorkAt.del x h)

pub made_output : (a b : Code) (i : Item) (e : RExpr) → (out-Item i).kind ≡ it.Output e → MadeDoing a b (line_of i) e op.Output → MadeItem a b i
made_output a b i e is made = done_with a b i (kind.Output e) e _ (ap out-ItemKind is ∙ it.outs-Output e) refl made (λ class end x h. WorkAt.output x h)

pub made_send : (a b c d f : Code) (i : Item) (m e : RExpr) → (out-Item i).kind ≡ it.Send m e → b ≡ added a (op.Turn (line_of i)) → MadeExpr b c m → MadeExpr c d e → f ≡ added d op.Send → MadeItem a f i
made_send a b c d f i m e is is_b first second is_f =
    let df = put_grown d f op.Send is_f in
    let cf = grown_on c d f 0 0 second.grown df in
    let bf = grown_on b c f 0 0 first.grown cf in
    let message = subst (λ n. ExprAt f n m (end_of c)) (put_end a b _ is_b) (kept_expr c f (grown_keeps c f 0 cf) first.stands) in
    turned a f i (kind.Send m e) [] (ap out-ItemKind is ∙ it.outs-Send m e) refl (grown_on a b f 0 0 (put_grown a b _ is_b) bf) (stays_has b f 0 (end_of a) _ bf (put_has a b _ is_b))
    (λ class numbered. subst (λ n. WorkAt f class (end_of a) (line_of i) (kind.Send m e) n) (sym (put_end d f op.Send is_f)) (WorkAt.send message (kept_expr d f (grown_keeps d f 0 df) second.stands) (put_has d f op.Send is_f)))

pub made_pass : (a b : Code) (i : Item) → (out-Item i).kind ≡ it.Pass → b ≡ added a (op.Turn (line_of i)) → MadeItem a b i
made_pass a b i is is_b =
    turned a b i kind.Pass [] (ap out-ItemKind is ∙ it.outs-Pass) refl (put_grown a b _ is_b) (put_has a b _ is_b)
    (λ class numbered. subst (λ n. WorkAt b class (end_of a) (line_of i) kind.Pass n) (sym (put_end a b _ is_b)) WorkAt.pass)

pub made_if : (a b c d f : Code) (i : Item) (bs : List RBranch) (other : List Item) (leaves : List ℕ) (exit : ℕ) → (out-Item i).kind ≡ it.If bs other → b ≡ added a (op.Turn (line_of i)) → MadeBranches b c bs leaves → MadeBlock c d other
    → exit ≡ end_of d → f ≡ filled d leaves (op.Jump exit) → MadeItem a f i
made_if a b c d f i bs other leaves exit is is_b branches block is_exit is_f =
    let j = op.Jump exit in
    let ps = flat_map branch_points bs in
    let qs = block_points other in
    let ab = put_grown a b _ is_b in
    let bd = grown_both b c d ps qs branches.grown block.grown in
    let bf : Grown b f (length (ps ++ qs)) = subst (λ z. Grown b z (length (ps ++ qs))) (sym is_f) (fill_grown j b d _ leaves bd branches.behind) in
    let end_f : end_of f ≡ end_of d = ap end_of is_f ∙ fill_end j d leaves in
    let leads : exit ≡ end_of f = is_exit ∙ sym end_f in
    turned a f i (kind.If bs other) (ps ++ qs) (ap out-ItemKind is ∙ it.outs-If bs other) refl (none_then a b f _ ab bf) (stays_has b f _ (end_of a) _ bf (put_has a b _ is_b))
    (λ class numbered.
    let at_b = same_numbers class a b (ps ++ qs) ab numbered in
    let at_c = branches.stands class (front_numbers class (length b.yields) ps qs at_b) in
    let at_d = branches_stay c d _ class (end_of b) bs (end_of c) leaves block.grown at_c in
    let may = holes_may_be j d leaves (branch_holes d class (end_of b) bs (end_of c) leaves at_d) in
    let df : Keeps d f = subst (Keeps d) (sym is_f) (fill_keeps j d leaves may) in
    let written = subst (λ z. AllByRecursion (λ at. Has z at j) leaves) (sym is_f) (fill_has j d leaves may) in
    let last = subst (λ n. BlockAt f class (end_of c) other n) (sym is_exit) (kept_block d f df class (block.stands class (after_numbers class b c ps qs branches.grown at_b))) in
    let choice = branches_written d f class exit other (end_of b) bs (end_of c) leaves at_d df written last in
    subst (λ n. WorkAt f class (end_of a) (line_of i) (kind.If bs other) n) leads
    (WorkAt.choice (subst (λ n. BranchesAt f class exit n bs other) (put_end a b _ is_b) choice)))

pub made_while : (a b c d f g h : Code) (e : RExpr) (body : List Item) (line start test exit : ℕ) → start ≡ end_of a → b ≡ added a (op.Turn line) → MadeExpr b c e → test ≡ end_of c
    → d ≡ added c op.End → MadeBlock d f body → g ≡ added f (op.Jump start) → exit ≡ end_of g → h ≡ patched g test (op.JumpUnless exit) → MadeWhile a h e body line
made_while a b c d f g h e body line start test exit is_start is_b cond is_test is_d block is_g is_exit is_h =
    let j = op.JumpUnless exit in
    let ps = block_points body in
    let n = length ps in
    let ab = put_grown a b _ is_b in
    let cd = put_grown c d op.End is_d in
    let fg = put_grown f g _ is_g in
    let dg = then_none d f g n block.grown fg in
    let cg = none_then c d g n cd dg in
    let bg = none_then b c g n cond.grown cg in
    let ag = none_then a b g n ab bg in
    let end_b = put_end a b _ is_b in
    let end_d = put_end c d op.End is_d in
    let end_g = put_end f g _ is_g in
    let end_h : end_of h ≡ end_of f + 1 = ap end_of is_h ∙ patch_end g test j ∙ end_g in
    let hole : Has g test op.End = subst (λ m. Has g m op.End) (sym is_test) (stays_has d g n (end_of c) op.End dg (put_has c d op.End is_d)) in
    let gh : Keeps g h = subst (Keeps g) (sym is_h) (patch_keeps g test j hole) in
    let ch = keeps_on c g h (grown_keeps c g n cg) gh in
    let bh = keeps_on b g h (grown_keeps b g n bg) gh in
    let fh = keeps_on f g h (grown_keeps f g 0 fg) gh in
    let turn = bh.instrs (end_of a) _ refl (put_has a b _ is_b) in
    let value = subst (λ m. ExprAt h m e (end_of c)) end_b (kept_expr c h ch cond.stands) in
    let jump_h : Has h test j = subst (λ z. Has z test j) (sym is_h) (patch_has g test j op.End hole) in
    let leads : exit ≡ end_of f + 1 = is_exit ∙ end_g in
    let jump : Has h (end_of c) (op.JumpUnless (end_of f + 1)) = subst (λ m. Has h (end_of c) (op.JumpUnless m)) leads (subst (λ m. Has h m j) is_test jump_h) in
    let back : Has h (end_of f) (op.Jump (end_of a)) = subst (λ m. Has h (end_of f) (op.Jump m)) is_start (gh.instrs (end_of f) _ refl (put_has f g _ is_g)) in
    record {
      grown = subst (λ z. Grown a z n) (sym is_h) (patch_grown a g n test j ag (omega (arith, is_test, end_b, cond.grown.instrs.longer)));
      turn = turn;
      stands = λ class numbered.
          let at_d = same_numbers class a d ps (grown_on a b d 0 0 ab (grown_on b c d 0 0 cond.grown cd)) numbered in
          let inner = subst (λ m. BlockAt h class m body (end_of f)) end_d (kept_block f h fh class (block.stands class at_d)) in
          subst (λ m. WorkAt h class (end_of a) line (kind.While e body) m) (sym end_h) (WorkAt.while value jump inner back);
    }

pub while_item : (a b : Code) (i : Item) (e : RExpr) (body : List Item) → (out-Item i).kind ≡ it.While e body → MadeWhile a b e body (line_of i) → MadeItem a b i
while_item a b i e body is made = turned a b i (kind.While e body) (block_points body) (ap out-ItemKind is ∙ it.outs-While e body) refl made.grown made.turn made.stands

pub made_loop : (a b c d e f : Code) (s line : ℕ) (body : List Item) (start hole done : ℕ) → start ≡ end_of a → b ≡ added a (op.Turn line) → hole ≡ end_of b → c ≡ added b op.End → MadeBlock c d body → e ≡ added d (op.Jump start)
    → done ≡ end_of e → f ≡ patched e hole (op.Next s done) → MadeLoop a f s body line
made_loop a b c d e f s line body start hole done is_start is_b is_hole is_c block is_e is_done is_f =
    let j = op.Next s done in
    let n = length (block_points body) in
    let ab = put_grown a b _ is_b in
    let bc = put_grown b c op.End is_c in
    let de = put_grown d e _ is_e in
    let ce = then_none c d e n block.grown de in
    let be = none_then b c e n bc ce in
    let ae = none_then a b e n ab be in
    let end_b = put_end a b _ is_b in
    let end_c = put_end b c op.End is_c in
    let end_e = put_end d e _ is_e in
    let end_f : end_of f ≡ end_of d + 1 = ap end_of is_f ∙ patch_end e hole j ∙ end_e in
    let begins : end_of c ≡ end_of a + 2 = omega (arith, end_b, end_c) in
    let open_here : Has e hole op.End = subst (λ m. Has e m op.End) (sym is_hole) (stays_has c e n (end_of b) op.End ce (put_has b c op.End is_c)) in
    let ef : Keeps e f = subst (Keeps e) (sym is_f) (patch_keeps e hole j open_here) in
    let bf = keeps_on b e f (grown_keeps b e n be) ef in
    let df = keeps_on d e f (grown_keeps d e 0 de) ef in
    let turn = bf.instrs (end_of a) _ refl (put_has a b _ is_b) in
    let next_f : Has f hole j = subst (λ z. Has z hole j) (sym is_f) (patch_has e hole j op.End open_here) in
    let at_next : hole ≡ end_of a + 1 = is_hole ∙ end_b in
    let leads : done ≡ end_of d + 1 = is_done ∙ end_e in
    let next : Has f (end_of a + 1) (op.Next s (end_of d + 1)) = subst (λ m. Has f (end_of a + 1) (op.Next s m)) leads (subst (λ m. Has f m j) at_next next_f) in
    let back : Has f (end_of d) (op.Jump (end_of a)) = subst (λ m. Has f (end_of d) (op.Jump m)) is_start (ef.instrs (end_of d) _ refl (put_has d e _ is_e)) in
    record {
      grown = subst (λ z. Grown a z n) (sym is_f) (patch_grown a e n hole j ae (omega (arith, at_next)));
      stands = λ class numbered.
          let at_c = same_numbers class a c (block_points body) (grown_on a b c 0 0 ab bc) numbered in
          let inner = subst (λ m. BlockAt f class m body (end_of d)) begins (kept_block d f df class (block.stands class at_c)) in
          subst (λ m. LoopAt f class (end_of a) s body line m) (sym end_f) (LoopAt.loop turn next inner back);
    }

pub made_for : (a b c : Code) (i : Item) (s : ℕ) (e : RExpr) (body : List Item) → (out-Item i).kind ≡ it.For s e body → MadeDoing a b (line_of i) e op.Take → MadeLoop b c s body (line_of i) → MadeItem a c i
made_for a b c i s e body is head loop =
    let ps = block_points body in
    let bc = grown_keeps b c (length ps) loop.grown in
    turned a c i (kind.For s e body) ps (ap out-ItemKind is ∙ it.outs-For s e body) refl (none_then a b c (length ps) head.grown loop.grown) (bc.instrs (end_of a) _ refl head.turn)
    (λ class numbered.
    let rest = subst (λ m. LoopAt c class m s body (line_of i) (end_of c)) head.ends (loop.stands class (same_numbers class a b ps head.grown numbered)) in
    WorkAt.for (kept_expr b c bc head.value) (bc.instrs head.value_end op.Take refl head.doing) rest)

pub made_call : (a b c d f : Code) (i : Item) (args : List BindArg) (body : List Item) → (out-Item i).kind ≡ it.Call args body → b ≡ added a (op.Turn (line_of i)) → MadeExprs b c (map value_of_arg args) → MadeStores c d (map slot_of_arg args) → MadeBlock d f body → MadeItem a f i
made_call a b c d f i args body is is_b values stores block =
    let ps = block_points body in
    let n = length ps in
    let ab = put_grown a b _ is_b in
    let df = block.grown in
    let cf = none_then c d f n stores.grown df in
    let bf = none_then b c f n values.grown cf in
    turned a f i (kind.Call args body) ps (ap out-ItemKind is ∙ it.outs-Call args body) refl (none_then a b f n ab bf) (stays_has b f n (end_of a) _ bf (put_has a b _ is_b))
    (λ class numbered.
    let at_d = same_numbers class a d ps (grown_on a b d 0 0 ab (grown_on b c d 0 0 values.grown stores.grown)) numbered in
    let first = subst (λ m. ExprsAt f m (map value_of_arg args) (end_of c)) (put_end a b _ is_b) (kept_exprs c f (grown_keeps c f n cf) values.stands) in
    WorkAt.call (EnterAt.enter first (kept_stores d f (grown_keeps d f n df) stores.stands) (block.stands class at_d)))

-- a statement that is a yield point
pub label_item : (a b : Code) (i : Item) (label : ℕ) → (out-Item i).kind ≡ it.Label label → MadeLabel a b → MadeItem a b i
label_item a b i label is made =
    let k : kind_of i ≡ kind.Label label = ap out-ItemKind is ∙ it.outs-Label label in
    let same : points_in i ≡ AtLabel label ∷ [] = points_at i ∙ ap points_in_kind k in
    record {
      grown = subst (λ l. Grown a b (length l)) (sym same) made.grown;
      stands = λ class numbered. made.stands class label (subst (AreNumbered class (length a.yields)) same numbered) i k;
    }

pub await_item : (a b : Code) (i : Item) (alts : List Alt) (timeout : Option (List Item)) (label : Option ℕ) (bodies : List (List Item)) → kind_of i ≡ kind.Await alts timeout label → blocks_in (kind.Await alts timeout label) ≡ bodies
    → MadeAwait a b bodies → MadeItem a b i
await_item a b i alts timeout label bodies k blocks made =
    let mine = AtAwait (ways_of alts) (is_some timeout) label in
    let parts : flat_map block_points bodies ≡ flat_map alt_points alts ++ block_points (unwrap_or timeout []) = ap (flat_map block_points) (sym blocks) ∙ await_points alts timeout label in
    let same : points_in i ≡ mine ∷ flat_map block_points bodies = points_at i ∙ ap points_in_kind k ∙ ap (λ l. mine ∷ l) (sym parts) in
    record {
      grown = subst (λ l. Grown a b (length l)) (sym same) made.grown;
      stands = λ class numbered. made.stands class alts timeout label blocks (subst (AreNumbered class (length a.yields)) same numbered) i k;
    }

-- an `await` without a block for the time that runs out, and one with such a block
pub await_ends : (a d f : Code) (i : Item) (alts : List Alt) (timeout : Option (List Item)) (label : Option ℕ) (begun : OpenAwait) → (out-Item i).kind ≡ it.Await alts timeout label → timeout ≡ None
    → Awaiting a d (map (λ a. (out-Alt a).body) alts) begun → f ≡ closed d begun → MadeItem a f i
await_ends a d f i alts timeout label begun is none awaiting is_f =
    let k : kind_of i ≡ kind.Await alts None label = ap out-ItemKind is ∙ it.outs-Await alts timeout label ∙ ap (λ t. ItemKind-F.Await alts t label) none in
    await_item a f i alts None label _ k (append-nil (map (λ a. (out-Alt a).body) alts)) (made_await a d f _ begun awaiting is_f)

pub await_with : (a f : Code) (i : Item) (alts : List Alt) (timeout : Option (List Item)) (body : List Item) (label : Option ℕ) → (out-Item i).kind ≡ it.Await alts timeout label → timeout ≡ Some body
    → MadeAwait a f (map (λ a. (out-Alt a).body) alts ++ body ∷ []) → MadeItem a f i
await_with a f i alts timeout body label is some made =
    let k : kind_of i ≡ kind.Await alts (Some body) label = ap out-ItemKind is ∙ it.outs-Await alts timeout label ∙ ap (λ t. ItemKind-F.Await alts t label) some in
    await_item a f i alts (Some body) label _ k refl made

pub ruleset work_rules = (made_assign, made_add, made_del, made_output, made_send, made_pass, made_if, while_item, made_for, made_call, label_item)
