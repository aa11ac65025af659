-- The code that is added for lists of statements, branches and blocks.
use Rattle.std.proofs.Common.{◌≡◌, ℕ, ◌+◌, ◌<◌, ◌≤◌, List, [], ◌∷◌, ◌++◌, length, map, take, get_or, refl, sym, ap, ◌∙◌, subst, arith, inr}
use Rattle.std.specs.Prelude.{flat_map}
use Rattle.std.specs.List.{AllByRecursion}
use Rattle.std.proofs.lemmas.List.{append-nil, map-append, take_all, take_more}
use Rattle.std.proofs.lemmas.Grind.{flat_map-append}
use Rattle.da_lang.specs.declared.code.Instr.TheVariants as op
use Rattle.da_lang.specs.declared.program.Alt.{Alt}
use Rattle.da_lang.specs.declared.program.Class.{Class}
use Rattle.da_lang.specs.declared.program.Item.{Item}
use Rattle.da_lang.specs.declared.program.ItemKind.TheViews.{out-Alt, out-RBranch}
use Rattle.da_lang.specs.declared.program.RBranch.{RBranch}
use Rattle.da_machine.specs.declared.code.Code.{Code}
use Rattle.da_machine.specs.CodeFor.{Has, BlockAt, BlocksAt, BranchesAt, FoundAt, ItemAt}
use Rattle.da_machine.specs.Points.{Points, points_in}
use Rattle.code_gen.specs.Made.{AreAfter, AreNumbered, Grown, MadeBlock, MadeBlocks, MadeBranches, MadeExpr, MadeFound, MadeItem, added, block_points, branch_points, end_of, patched}
use Rattle.code_gen.specs.Open.{OpenBlocks, OpenBranches}
use Rattle.code_gen.proofs.ExprCode.{after_too}
use Rattle.code_gen.proofs.Growing.{AreHoles, grown_none, grown_on, none_then, patch_end, patch_grown, patch_has, patch_keeps, patch_other, put_end, put_grown, put_has, stays_has, then_none}
use Rattle.code_gen.proofs.Kept.{Keeps, grown_keeps, keeps_on, kept_block, kept_expr, kept_found}
use Rattle.code_gen.proofs.PointLaws.{after_numbers, front_numbers, grown_both, same_numbers}

-- the points of all but the last, and of the last
one_more : (A : Type 0) (f : A → Points) (xs : List A) (x : A) → flat_map f (xs ++ x ∷ []) ≡ flat_map f xs ++ f x
one_more A f xs x = flat_map-append f xs (x ∷ []) ∙ ap (λ l. flat_map f xs ++ l) (append-nil (f x))

-- statements
pub made_no_item : (a : Code) → MadeBlock a a []
made_no_item a = record { grown = grown_none a; stands = λ class numbered. BlockAt.empty }

block_after : (c : Code) (class : Class) (at : ℕ) (is : List Item) (end : ℕ) → BlockAt c class at is end → (i : Item) (to : ℕ) → ItemAt c class end i to → BlockAt c class at (is ++ i ∷ []) to
block_after c class _ _ _ (BlockAt.empty {at}) i to x = BlockAt.item x BlockAt.empty
block_after c class _ _ _ (BlockAt.item {at} {to = mid} {end} {i = j} {is} y ys) i to x = BlockAt.item y (block_after c class mid is end ys i to x)

made_items_after : (a b c : Code) (is : List Item) (i : Item) → MadeBlock a b is → MadeItem b c i → MadeBlock a c (is ++ i ∷ [])
made_items_after a b c is i first last =
    let points = one_more Item points_in is i in
    record {
      grown = subst (λ ps. Grown a c (length ps)) (sym points) (grown_both a b c (block_points is) (points_in i) first.grown last.grown);
      stands = λ class numbered.
          let all = subst (AreNumbered class (length a.yields)) points numbered in
          block_after c class (end_of a) is (end_of b)
          (kept_block b c (grown_keeps b c _ last.grown) class (first.stands class (front_numbers class (length a.yields) (block_points is) (points_in i) all)))
          i (end_of c) (last.stands class (after_numbers class a b (block_points is) (points_in i) first.grown all));
    }

pub made_items_next : (a b c : Code) (is : List Item) (k : ℕ) (i : Item) → k < length is → i ≡ get_or is k i → MadeBlock a b (take k is) → MadeItem b c i → MadeBlock a c (take (k + 1) is)
made_items_next a b c is k i inside at first last =
    subst (MadeBlock a c) (sym (take_more is k i inside ∙ ap (λ x. take k is ++ x ∷ []) (sym at))) (made_items_after a b c (take k is) i first last)

-- branches
branches_after : (c : Code) (class : Class) (at : ℕ) (bs : List RBranch) (end : ℕ) (ls : List ℕ) → OpenBranches c class at bs end ls → (cs : List RBranch) (last : ℕ) (ms : List ℕ) → OpenBranches c class end cs last ms → OpenBranches c class at (bs ++ cs) last (ls ++ ms)
branches_after c class _ _ _ _ OpenBranches.none cs last ms more = more
branches_after c class _ _ _ _ (OpenBranches.branch {at} {test} {to} {end} {last = mid} {b} {bs} {leaves} x j f y h ys) cs last ms more = OpenBranches.branch x j f y h (branches_after c class (end + 1) bs mid leaves ys cs last ms more)

pub branches_stay : (c d : Code) (n : ℕ) (class : Class) (at : ℕ) (bs : List RBranch) (end : ℕ) (ls : List ℕ) → Grown c d n → OpenBranches c class at bs end ls → OpenBranches d class at bs end ls
branches_stay c d n class _ _ _ _ grown OpenBranches.none = OpenBranches.none
branches_stay c d n class _ _ _ _ grown (OpenBranches.branch {at} {test} {to} {end} {last} {b} {bs} {leaves} x j f y h ys) =
    let keeps = grown_keeps c d n grown in
    OpenBranches.branch (kept_expr c d keeps x) (keeps.instrs _ _ refl j) (kept_found c d keeps f) (kept_block c d keeps class y) (stays_has c d n end op.End grown h) (branches_stay c d n class (end + 1) bs last leaves grown ys)

pub branch_holes : (c : Code) (class : Class) (at : ℕ) (bs : List RBranch) (end : ℕ) (ls : List ℕ) → OpenBranches c class at bs end ls → AreHoles c ls
branch_holes c class _ _ _ _ OpenBranches.none = tt
branch_holes c class _ _ _ _ (OpenBranches.branch {at} {test} {to} {end} {last} {b} {bs} {leaves} x j f y h ys) = (h, branch_holes c class (end + 1) bs last leaves ys)

pub branches_written : (c d : Code) (class : Class) (exit : ℕ) (other : List Item) (at : ℕ) (bs : List RBranch) (end : ℕ) (ls : List ℕ) → OpenBranches c class at bs end ls → Keeps c d → AllByRecursion (λ leave. Has d leave (op.Jump exit)) ls → BlockAt d class end other exit → BranchesAt d class exit at bs other
branches_written c d class exit other _ _ _ _ OpenBranches.none keeps all block = BranchesAt.otherwise block
branches_written c d class exit other _ _ _ _ (OpenBranches.branch {at} {test} {to} {end} {last} {b} {bs} {leaves} x j f y h ys) keeps all block =
    BranchesAt.branch (kept_expr c d keeps x) (keeps.instrs _ _ refl j) (kept_found c d keeps f) (kept_block c d keeps class y) all.0 (branches_written c d class exit other (end + 1) bs last leaves ys keeps all.1 block)

all_behind : (a b : Code) (places : List ℕ) → end_of a ≤ end_of b → AreAfter b places → AreAfter a places
all_behind a b [] up all = tt
all_behind a b (at ∷ places) up all = (omega (arith, up, all.0), all_behind a b places up all.1)

both_after : (a : Code) (ls ms : List ℕ) → AreAfter a ls → AreAfter a ms → AreAfter a (ls ++ ms)
both_after a [] ms first second = second
both_after a (l ∷ ls) ms first second = (first.0, both_after a ls ms first.1 second)

pub made_no_branch : (a : Code) (ls : List ℕ) → ls ≡ [] → MadeBranches a a [] ls
made_no_branch a ls is = subst (MadeBranches a a []) (sym is) (record { grown = grown_none a; behind = tt; stands = λ class numbered. OpenBranches.none })

made_branches_after : (a b c : Code) (bs cs : List RBranch) (ls ms : List ℕ) → MadeBranches a b bs ls → MadeBranches b c cs ms → MadeBranches a c (bs ++ cs) (ls ++ ms)
made_branches_after a b c bs cs ls ms first last =
    let points = flat_map-append branch_points bs cs in
    let ps = flat_map branch_points bs in
    let qs = flat_map branch_points cs in
    record {
      grown = subst (λ l. Grown a c (length l)) (sym points) (grown_both a b c ps qs first.grown last.grown);
      behind = both_after a ls ms first.behind (all_behind a b ms first.grown.instrs.longer last.behind);
      stands = λ class numbered.
          let all = subst (AreNumbered class (length a.yields)) points numbered in
          branches_after c class (end_of a) bs (end_of b) ls
          (branches_stay b c _ class (end_of a) bs (end_of b) ls last.grown (first.stands class (front_numbers class (length a.yields) ps qs all)))
          cs (end_of c) ms (last.stands class (after_numbers class a b ps qs first.grown all));
    }

pub made_branches_next : (a b c : Code) (bs : List RBranch) (k : ℕ) (ls now : List ℕ) (leave : ℕ) (x : RBranch) → k < length bs → x ≡ get_or bs k x → MadeBranches a b (take k bs) ls → MadeBranches b c (x ∷ []) (leave ∷ []) → now ≡ ls ++ leave ∷ [] → MadeBranches a c (take (k + 1) bs) now
made_branches_next a b c bs k ls now leave x inside at first last is =
    subst (λ l. MadeBranches a c l now) (sym (take_more bs k x inside ∙ ap (λ y. take k bs ++ y ∷ []) (sym at)))
    (subst (MadeBranches a c (take k bs ++ x ∷ [])) (sym is) (made_branches_after a b c (take k bs) (x ∷ []) ls (leave ∷ []) first last))

pub branches_whole : (a b : Code) (bs : List RBranch) (k : ℕ) (ls : List ℕ) → length bs ≤ k → MadeBranches a b (take k bs) ls → MadeBranches a b bs ls
branches_whole a b bs k ls past made = subst (λ l. MadeBranches a b l ls) (take_all k bs past) made

-- the condition up to b, its test, the row up to d, the block up to e, and the way out
pub made_branch : (a b c d e f g : Code) (x : RBranch) (test leave next : ℕ) → MadeExpr a b (out-RBranch x).cond → test ≡ end_of b → c ≡ added b op.End → MadeFound c d (out-RBranch x).found (out-RBranch x).binds
    → MadeBlock d e (out-RBranch x).body → leave ≡ end_of e → f ≡ added e op.End → next ≡ end_of f → g ≡ patched f test (op.JumpUnless next) → MadeBranches a g (x ∷ []) (leave ∷ [])
made_branch a b c d e f g x test leave next cond is_test is_c row block is_leave is_f is_next is_g =
    let i = op.JumpUnless next in
    let points = append-nil (branch_points x) in
    let n = length (branch_points x) in
    let bc = put_grown b c op.End is_c in
    let ef = put_grown e f op.End is_f in
    let cf = none_then c d f n row.grown (then_none d e f n block.grown ef) in
    let df = then_none d e f n block.grown ef in
    let bf = none_then b c f n bc cf in
    let af = none_then a b f n cond.grown bf in
    let end_c = put_end b c op.End is_c in
    let end_f = put_end e f op.End is_f in
    let hole : Has f test op.End = subst (λ m. Has f m op.End) (sym is_test) (stays_has c f n (end_of b) op.End cf (put_has b c op.End is_c)) in
    let fg : Keeps f g = subst (Keeps f) (sym is_g) (patch_keeps f test i hole) in
    let bg = keeps_on b f g (grown_keeps b f n bf) fg in
    let dg = keeps_on d f g (grown_keeps d f n df) fg in
    let eg = keeps_on e f g (grown_keeps e f 0 ef) fg in
    let end_g : end_of g ≡ end_of e + 1 = ap end_of is_g ∙ patch_end f test i ∙ end_f in
    let to_next : next ≡ end_of e + 1 = is_next ∙ end_f in
    let jump_g : Has g test i = subst (λ z. Has z test i) (sym is_g) (patch_has f test i op.End hole) in
    let jump : Has g (end_of b) (op.JumpUnless (end_of e + 1)) = subst (λ m. Has g (end_of b) (op.JumpUnless m)) to_next (subst (λ m. Has g m i) is_test jump_g) in
    let out_f : Has f (end_of e) op.End = put_has e f op.End is_f in
    let apart : test < end_of e = omega (arith, is_test, end_c, row.grown.instrs.longer, block.grown.instrs.longer) in
    let out : Has g (end_of e) op.End = subst (λ z. Has z (end_of e) op.End) (sym is_g) (patch_other f test i (end_of e) op.End (inr apart) out_f) in
    record {
      grown = subst (λ z. Grown a z (length (branch_points x ++ []))) (sym is_g)
          (patch_grown a f _ test i (subst (λ l. Grown a f (length l)) (sym points) af) (omega (arith, is_test, cond.grown.instrs.longer)));
      behind = subst (λ m. AreAfter a (m ∷ [])) (sym is_leave) (omega (arith, cond.grown.instrs.longer, end_c, row.grown.instrs.longer, block.grown.instrs.longer), tt);
      stands = λ class numbered.
          let all = subst (AreNumbered class (length a.yields)) points numbered in
          let at_d = same_numbers class a d (branch_points x) (grown_on a b d 0 0 cond.grown (grown_on b c d 0 0 bc row.grown)) all in
          let found = subst (λ m. FoundAt g m (out-RBranch x).found (out-RBranch x).binds (end_of d)) end_c (kept_found d g dg row.stands) in
          let body = kept_block e g eg class (block.stands class at_d) in
          subst (λ m. OpenBranches g class (end_of a) (x ∷ []) (end_of g) (m ∷ [])) (sym is_leave)
          (subst (λ m. OpenBranches g class (end_of a) (x ∷ []) m (end_of e ∷ [])) (sym end_g)
          (OpenBranches.branch (kept_expr b g bg cond.stands) jump found body out OpenBranches.none));
    }

-- the blocks of an `await`
blocks_after : (c : Code) (class : Class) (at : ℕ) (bodies : List (List Item)) (end : ℕ) (es ls : List ℕ) → OpenBlocks c class at bodies end es ls → (body : List Item) (to : ℕ) → BlockAt c class end body to → Has c to op.End
    → OpenBlocks c class at (bodies ++ body ∷ []) (to + 1) (es ++ end ∷ []) (ls ++ to ∷ [])
blocks_after c class _ _ _ _ _ (OpenBlocks.none {at}) body to block h = OpenBlocks.block block h OpenBlocks.none
blocks_after c class _ _ _ _ _ (OpenBlocks.block {at} {end = mid} {last} {body = first} {bodies} {entries} {leaves} y g ys) body to block h =
    OpenBlocks.block y g (blocks_after c class (mid + 1) bodies last entries leaves ys body to block h)

pub blocks_stay : (c d : Code) (n : ℕ) (class : Class) (at : ℕ) (bodies : List (List Item)) (end : ℕ) (es ls : List ℕ) → Grown c d n → OpenBlocks c class at bodies end es ls → OpenBlocks d class at bodies end es ls
blocks_stay c d n class _ _ _ _ _ grown OpenBlocks.none = OpenBlocks.none
blocks_stay c d n class _ _ _ _ _ grown (OpenBlocks.block {at} {end} {last} {body} {bodies} {entries} {leaves} y h ys) =
    OpenBlocks.block (kept_block c d (grown_keeps c d n grown) class y) (stays_has c d n end op.End grown h) (blocks_stay c d n class (end + 1) bodies last entries leaves grown ys)

pub block_holes : (c : Code) (class : Class) (at : ℕ) (bodies : List (List Item)) (end : ℕ) (es ls : List ℕ) → OpenBlocks c class at bodies end es ls → AreHoles c ls
block_holes c class _ _ _ _ _ OpenBlocks.none = tt
block_holes c class _ _ _ _ _ (OpenBlocks.block {at} {end} {last} {body} {bodies} {entries} {leaves} y h ys) = (h, block_holes c class (end + 1) bodies last entries leaves ys)

pub blocks_written : (c d : Code) (class : Class) (at : ℕ) (bodies : List (List Item)) (end : ℕ) (es ls : List ℕ) → OpenBlocks c class at bodies end es ls → Keeps c d → AllByRecursion (λ leave. Has d leave (op.Jump end)) ls
    → BlocksAt d class end at bodies es
blocks_written c d class _ _ _ _ _ OpenBlocks.none keeps all = BlocksAt.done
blocks_written c d class _ _ _ _ _ (OpenBlocks.block {at} {end} {last} {body} {bodies} {entries} {leaves} y h ys) keeps all =
    BlocksAt.block (kept_block c d keeps class y) all.0 (blocks_written c d class (end + 1) bodies last entries leaves ys keeps all.1)

-- the blocks of the alternatives up to one after a place
pub blocks_next : (alts : List Alt) (k : ℕ) (a : Alt) → k < length alts → a ≡ get_or alts k a → map (λ x. (out-Alt x).body) (take (k + 1) alts) ≡ map (λ x. (out-Alt x).body) (take k alts) ++ (out-Alt a).body ∷ []
blocks_next alts k a inside at =
    ap (map (λ x. (out-Alt x).body)) (take_more alts k a inside ∙ ap (λ x. take k alts ++ x ∷ []) (sym at)) ∙ map-append (λ x. (out-Alt x).body) (take k alts) (a ∷ [])

pub blocks_all : (alts : List Alt) (k : ℕ) → length alts ≤ k → map (λ x. (out-Alt x).body) (take k alts) ≡ map (λ x. (out-Alt x).body) alts
blocks_all alts k past = ap (map (λ x. (out-Alt x).body)) (take_all k alts past)

pub made_no_block : (a : Code) → MadeBlocks a a [] [] []
made_no_block a = record { grown = grown_none a; behind = tt; stands = λ class numbered. OpenBlocks.none }

pub made_blocks_after : (a b c d : Code) (bodies : List (List Item)) (es ls : List ℕ) (body : List Item) → MadeBlocks a b bodies es ls → MadeBlock b c body → d ≡ added c op.End
    → MadeBlocks a d (bodies ++ body ∷ []) (es ++ end_of b ∷ []) (ls ++ end_of c ∷ [])
made_blocks_after a b c d bodies es ls body first block is =
    let points = one_more (List Item) block_points bodies body in
    let ps = flat_map block_points bodies in
    let last = put_grown c d op.End is in
    let bd = then_none b c d (length (block_points body)) block.grown last in
    record {
      grown = subst (λ l. Grown a d (length l)) (sym points) (grown_both a b d ps (block_points body) first.grown bd);
      behind = after_too a ls (end_of c) first.behind (omega (arith, first.grown.instrs.longer, block.grown.instrs.longer));
      stands = λ class numbered.
          let all = subst (AreNumbered class (length a.yields)) points numbered in
          let before = blocks_stay b d _ class (end_of a) bodies (end_of b) es ls bd (first.stands class (front_numbers class (length a.yields) ps (block_points body) all)) in
          let stands = kept_block c d (grown_keeps c d 0 last) class (block.stands class (after_numbers class a b ps (block_points body) first.grown all)) in
          subst (λ m. OpenBlocks d class (end_of a) (bodies ++ body ∷ []) m (es ++ end_of b ∷ []) (ls ++ end_of c ∷ [])) (sym (put_end c d op.End is))
          (blocks_after d class (end_of a) bodies (end_of b) es ls before body (end_of c) stands (put_has c d op.End is));
    }

pub made_blocks_next : (a b c d : Code) (bodies : List (List Item)) (es es2 ls ls2 : List ℕ) (entry leave : ℕ) (body : List Item) → MadeBlocks a b bodies es ls → entry ≡ end_of b → es2 ≡ es ++ entry ∷ []
    → MadeBlock b c body → leave ≡ end_of c → ls2 ≡ ls ++ leave ∷ [] → d ≡ added c op.End → MadeBlocks a d (bodies ++ body ∷ []) es2 ls2
made_blocks_next a b c d bodies es es2 ls ls2 entry leave body first is_entry is_es block is_leave is_ls is =
    subst (λ l. MadeBlocks a d (bodies ++ body ∷ []) l ls2) (sym (is_es ∙ ap (λ n. es ++ n ∷ []) is_entry))
    (subst (MadeBlocks a d (bodies ++ body ∷ []) (es ++ end_of b ∷ [])) (sym (is_ls ∙ ap (λ n. ls ++ n ∷ []) is_leave)) (made_blocks_after a b c d bodies es ls body first block is))
