-- The code that is added for openings and handlers.
use Rattle.std.proofs.Common.{◌≡◌, ℕ, ◌+◌, ◌^◌, ◌<◌, ◌≤◌, Bool, true, false, List, [], ◌∷◌, ◌++◌, length, map, take, get_or, Option, Some, None, refl, sym, ap, ◌∙◌, subst, arith}
use Rattle.std.specs.Prelude.{◌==◌, flat_map, if◌then◌else◌}
use Rattle.std.proofs.lemmas.Bool.{eq-eqb, eqb-true}
use Rattle.std.proofs.lemmas.List.{append-nil, map-id, take_all, take_more}
use Rattle.std.proofs.lemmas.Grind.{flat_map-append}
use Rattle.da_lang.specs.declared.code.Instr.TheVariants as op
use Rattle.da_lang.specs.declared.program.Class.{Class}
use Rattle.da_lang.specs.declared.program.Handler.{Handler}
use Rattle.da_lang.specs.declared.program.ProcDecl.{ProcDecl}
use Rattle.da_lang.specs.declared.program.SetupCall.{SetupCall}
use Rattle.da_machine.specs.declared.code.Code.{Code}
use Rattle.da_machine.specs.CodeFor.{Has, BlockAt, EnterAt, ExprsAt, StoresAt}
use Rattle.da_machine.specs.Points.{Point, Points, class_points}
use Rattle.code_gen.specs.Made.{AreNumbered, Grown, MadeBlock, MadeExprs, MadeHandlers, MadeSetup, MadeSetups, MadeStores, added, block_points, end_of, handler_points}
use Rattle.code_gen.specs.Open.{HandlersAt, OpenSetups, SetupAt, own_setups}
use Rattle.code_gen.proofs.ExprCode.{after_too}
use Rattle.code_gen.proofs.Growing.{AreHoles, grown_none, grown_on, put_end, put_grown, put_has, stays_has, then_none}
use Rattle.code_gen.proofs.Kept.{grown_keeps, kept_block, kept_enter, kept_exprs, kept_stores}
use Rattle.code_gen.proofs.PointLaws.{after_numbers, front_numbers, grown_both}

-- what a line of `setup` asks for
pub made_unprepared : (a : Code) (class : Class) → MadeSetup a a class None
made_unprepared a class = record { grown = grown_none a; stands = SetupAt.no_setup }

-- nothing is numbered where there is nothing
no_numbers : (class : Class) (from : ℕ) (ps : Points) → length (class_points class) < 2 ^ 32 → ps ≡ [] → AreNumbered class from ps
no_numbers class from ps few none = subst (AreNumbered class from) (sym none) (record { few = few; each = λ n point there. absurd (let no : ◌≡◌ {A = Option Point} None (Some point) = there in cc) })

pub made_prepared : (a b c d e : Code) (class : Class) (call : SetupCall) → length (class_points class) < 2 ^ 32 → block_points class.setup ≡ [] → b ≡ added a (op.Turn call.line) → MadeExprs b c call.args → MadeStores c d (map (λ s. s) class.params) → MadeBlock d e class.setup → MadeSetup a e class (Some call)
made_prepared a b c d e class call few none is_b values stores block =
    let nothing_more : length (block_points class.setup) ≡ 0 = ap length none in
    let de : Grown d e 0 = subst (Grown d e) nothing_more block.grown in
    let ce = grown_on c d e 0 0 stores.grown de in
    let be = grown_on b c e 0 0 values.grown ce in
    let first = subst (λ m. ExprsAt e m call.args (end_of c)) (put_end a b _ is_b) (kept_exprs c e (grown_keeps c e 0 ce) values.stands) in
    let slots = kept_stores d e (grown_keeps d e 0 de) (subst (λ l. StoresAt d (end_of c) l (end_of d)) (map-id class.params) stores.stands) in
    record {
      grown = grown_on a b e 0 0 (put_grown a b _ is_b) be;
      stands = SetupAt.setup (stays_has b e 0 (end_of a) _ be (put_has a b _ is_b)) (EnterAt.enter first slots (block.stands class (no_numbers class (length d.yields) (block_points class.setup) few none)));
    }

-- openings
setup_stays : (c d : Code) (class : Class) (at : ℕ) (s : Option SetupCall) (end : ℕ) → Grown c d 0 → SetupAt c class at s end → SetupAt d class at s end
setup_stays c d class _ _ _ grown SetupAt.no_setup = SetupAt.no_setup
setup_stays c d class _ _ _ grown (SetupAt.setup {at} {end} {call} h x) = SetupAt.setup (stays_has c d 0 at _ grown h) (kept_enter c d (grown_keeps c d 0 grown) class x)

setups_stay : (c d : Code) (class : Class) (at : ℕ) (ss : List (Option SetupCall)) (end : ℕ) (es ls : List ℕ) → Grown c d 0 → OpenSetups c class at ss end es ls → OpenSetups d class at ss end es ls
setups_stay c d class _ _ _ _ _ grown OpenSetups.none = OpenSetups.none
setups_stay c d class _ _ _ _ _ grown (OpenSetups.opening {at} {end} {last} {s} {ss} {entries} {leaves} x h xs) =
    OpenSetups.opening (setup_stays c d class at s end grown x) (stays_has c d 0 end op.End grown h) (setups_stay c d class (end + 1) ss last entries leaves grown xs)

setups_after : (c : Code) (class : Class) (at : ℕ) (ss : List (Option SetupCall)) (end : ℕ) (es ls : List ℕ) → OpenSetups c class at ss end es ls → (s : Option SetupCall) (to : ℕ) → SetupAt c class end s to → Has c to op.End → OpenSetups c class at (ss ++ s ∷ []) (to + 1) (es ++ end ∷ []) (ls ++ to ∷ [])
setups_after c class _ _ _ _ _ (OpenSetups.none {at}) s to x h = OpenSetups.opening x h OpenSetups.none
setups_after c class _ _ _ _ _ (OpenSetups.opening {at} {end = mid} {last} {s = t} {ss} {entries} {leaves} y g ys) s to x h = OpenSetups.opening y g (setups_after c class (mid + 1) ss last entries leaves ys s to x h)

pub made_no_setup : (a : Code) (class : Class) (es ls : List ℕ) → es ≡ [] → ls ≡ [] → MadeSetups a a class [] es ls
made_no_setup a class es ls is_es is_ls =
    subst (λ l. MadeSetups a a class [] l ls) (sym is_es) (subst (MadeSetups a a class [] []) (sym is_ls) (record { grown = grown_none a; behind = tt; stands = OpenSetups.none }))

made_setups_after : (a b c d : Code) (class : Class) (ss : List (Option SetupCall)) (es ls : List ℕ) (s : Option SetupCall) → MadeSetups a b class ss es ls → MadeSetup b c class s → d ≡ added c op.End → MadeSetups a d class (ss ++ s ∷ []) (es ++ end_of b ∷ []) (ls ++ end_of c ∷ [])
made_setups_after a b c d class ss es ls s first one is =
    let last = put_grown c d op.End is in
    let bd = grown_on b c d 0 0 one.grown last in
    record {
      grown = grown_on a b d 0 0 first.grown bd;
      behind = after_too a ls (end_of c) first.behind (omega (arith, first.grown.instrs.longer, one.grown.instrs.longer));
      stands = subst (λ m. OpenSetups d class (end_of a) (ss ++ s ∷ []) m (es ++ end_of b ∷ []) (ls ++ end_of c ∷ [])) (sym (put_end c d op.End is))
          (setups_after d class (end_of a) ss (end_of b) es ls (setups_stay b d class (end_of a) ss (end_of b) es ls bd first.stands) s (end_of c) (setup_stays c d class (end_of b) s (end_of c) last one.stands) (put_has c d op.End is));
    }

-- those of a class among all, with one declaration more
own_behind : (own : Bool) (s : Option SetupCall) (xs ys zs : List (Option SetupCall)) → xs ≡ ys ++ zs → (if own then s ∷ xs else xs) ≡ (if own then s ∷ ys else ys) ++ zs
own_behind true s xs ys zs same = ap (λ l. s ∷ l) same
own_behind false s xs ys zs same = same

own_more : (number : ℕ) (ds : List ProcDecl) (d : ProcDecl) (b : Bool) → (d.class == number) ≡ b → own_setups number (ds ++ d ∷ []) ≡ own_setups number ds ++ (if b then d.setup ∷ [] else [])
own_more number [] d b is = ap (λ z. if z then d.setup ∷ [] else []) is
own_more number (x ∷ ds) d b is = own_behind ((x.class == number)) x.setup (own_setups number (ds ++ d ∷ [])) (own_setups number ds) (if b then d.setup ∷ [] else []) (own_more number ds d b is)

no_tie : (x y : ℕ) (b : Bool) → (x == y) ≡ b → (x ≡ y → ⊥) → (x == y) ≡ false
no_tie x y true is other = absurd (other (eqb-true x y is))
no_tie x y false is other = is

pub setups_next : (a b c d : Code) (class : Class) (ds : List ProcDecl) (number k : ℕ) (es es2 ls ls2 : List ℕ) (entry leave : ℕ) (x : ProcDecl) → k < length ds → x ≡ get_or ds k x → x.class ≡ number → MadeSetups a b class (own_setups number (take k ds)) es ls
    → entry ≡ end_of b → es2 ≡ es ++ entry ∷ [] → MadeSetup b c class x.setup → leave ≡ end_of c → ls2 ≡ ls ++ leave ∷ [] → d ≡ added c op.End → MadeSetups a d class (own_setups number (take (k + 1) ds)) es2 ls2
setups_next a b c d class ds number k es es2 ls ls2 entry leave x inside at own first is_entry is_es one is_leave is_ls is =
    let whole = take_more ds k x inside ∙ ap (λ y. take k ds ++ y ∷ []) (sym at) in
    let setups = ap (own_setups number) whole ∙ own_more number (take k ds) x true (eq-eqb x.class number own) in
    subst (λ l. MadeSetups a d class l es2 ls2) (sym setups)
    (subst (λ l. MadeSetups a d class (own_setups number (take k ds) ++ x.setup ∷ []) l ls2) (sym (is_es ∙ ap (λ n. es ++ n ∷ []) is_entry))
    (subst (MadeSetups a d class (own_setups number (take k ds) ++ x.setup ∷ []) (es ++ end_of b ∷ [])) (sym (is_ls ∙ ap (λ n. ls ++ n ∷ []) is_leave))
    (made_setups_after a b c d class (own_setups number (take k ds)) es ls x.setup first one is)))

pub setups_pass : (a b : Code) (class : Class) (ds : List ProcDecl) (number k : ℕ) (es ls : List ℕ) (x : ProcDecl) → k < length ds → x ≡ get_or ds k x → (x.class ≡ number → ⊥) → MadeSetups a b class (own_setups number (take k ds)) es ls → MadeSetups a b class (own_setups number (take (k + 1) ds)) es ls
setups_pass a b class ds number k es ls x inside at other first =
    let whole = take_more ds k x inside ∙ ap (λ y. take k ds ++ y ∷ []) (sym at) in
    let setups = ap (own_setups number) whole ∙ own_more number (take k ds) x false (no_tie x.class number (x.class == number) refl other) ∙ append-nil (own_setups number (take k ds)) in
    subst (λ l. MadeSetups a b class l es ls) (sym setups) first

pub setups_whole : (a b : Code) (class : Class) (ds : List ProcDecl) (number k : ℕ) (es ls : List ℕ) → length ds ≤ k → MadeSetups a b class (own_setups number (take k ds)) es ls → MadeSetups a b class (own_setups number ds) es ls
setups_whole a b class ds number k es ls past made = subst (λ l. MadeSetups a b class (own_setups number l) es ls) (take_all k ds past) made

pub setup_holes : (c : Code) (class : Class) (at : ℕ) (ss : List (Option SetupCall)) (end : ℕ) (es ls : List ℕ) → OpenSetups c class at ss end es ls → AreHoles c ls
setup_holes c class _ _ _ _ _ OpenSetups.none = tt
setup_holes c class _ _ _ _ _ (OpenSetups.opening {at} {end} {last} {s} {ss} {entries} {leaves} x h xs) = (h, setup_holes c class (end + 1) ss last entries leaves xs)

-- handlers
handlers_stay : (c d : Code) (n : ℕ) (class : Class) (at : ℕ) (hs : List Handler) (end : ℕ) (es : List ℕ) → Grown c d n → HandlersAt c class at hs end es → HandlersAt d class at hs end es
handlers_stay c d n class _ _ _ _ grown HandlersAt.none = HandlersAt.none
handlers_stay c d n class _ _ _ _ grown (HandlersAt.handler {at} {end} {last} {h} {hs} {entries} x e xs) =
    HandlersAt.handler (kept_block c d (grown_keeps c d n grown) class x) (stays_has c d n end op.End grown e) (handlers_stay c d n class (end + 1) hs last entries grown xs)

handlers_after : (c : Code) (class : Class) (at : ℕ) (hs : List Handler) (end : ℕ) (es : List ℕ) → HandlersAt c class at hs end es → (h : Handler) (to : ℕ) → BlockAt c class end h.body to → Has c to op.End → HandlersAt c class at (hs ++ h ∷ []) (to + 1) (es ++ end ∷ [])
handlers_after c class _ _ _ _ (HandlersAt.none {at}) h to x e = HandlersAt.handler x e HandlersAt.none
handlers_after c class _ _ _ _ (HandlersAt.handler {at} {end = mid} {last} {h = g} {hs} {entries} y e2 ys) h to x e = HandlersAt.handler y e2 (handlers_after c class (mid + 1) hs last entries ys h to x e)

pub made_no_handler : (a : Code) (es : List ℕ) → es ≡ [] → MadeHandlers a a [] es
made_no_handler a es is = subst (MadeHandlers a a []) (sym is) (record { grown = grown_none a; stands = λ class numbered. HandlersAt.none })

made_handlers_after : (a b c d : Code) (hs : List Handler) (es : List ℕ) (h : Handler) → MadeHandlers a b hs es → MadeBlock b c h.body → d ≡ added c op.End → MadeHandlers a d (hs ++ h ∷ []) (es ++ end_of b ∷ [])
made_handlers_after a b c d hs es h first block is =
    let ps = flat_map handler_points hs in
    let points : flat_map handler_points (hs ++ h ∷ []) ≡ ps ++ handler_points h = flat_map-append handler_points hs (h ∷ []) ∙ ap (λ l. ps ++ l) (append-nil (handler_points h)) in
    let last = put_grown c d op.End is in
    let bd = then_none b c d (length (handler_points h)) block.grown last in
    record {
      grown = subst (λ l. Grown a d (length l)) (sym points) (grown_both a b d ps (handler_points h) first.grown bd);
      stands = λ class numbered.
          let all = subst (AreNumbered class (length a.yields)) points numbered in
          let before = handlers_stay b d _ class (end_of a) hs (end_of b) es bd (first.stands class (front_numbers class (length a.yields) ps (handler_points h) all)) in
          let body = kept_block c d (grown_keeps c d 0 last) class (block.stands class (after_numbers class a b ps (handler_points h) first.grown all)) in
          subst (λ m. HandlersAt d class (end_of a) (hs ++ h ∷ []) m (es ++ end_of b ∷ [])) (sym (put_end c d op.End is))
          (handlers_after d class (end_of a) hs (end_of b) es before h (end_of c) body (put_has c d op.End is));
    }

pub handlers_next : (a b c d : Code) (hs : List Handler) (k : ℕ) (es es2 : List ℕ) (entry : ℕ) (h : Handler) → k < length hs → h ≡ get_or hs k h → MadeHandlers a b (take k hs) es → entry ≡ end_of b → es2 ≡ es ++ entry ∷ [] → MadeBlock b c h.body → d ≡ added c op.End → MadeHandlers a d (take (k + 1) hs) es2
handlers_next a b c d hs k es es2 entry h inside at first is_entry is_es block is =
    subst (λ l. MadeHandlers a d l es2) (sym (take_more hs k h inside ∙ ap (λ y. take k hs ++ y ∷ []) (sym at)))
    (subst (MadeHandlers a d (take k hs ++ h ∷ [])) (sym (is_es ∙ ap (λ n. es ++ n ∷ []) is_entry)) (made_handlers_after a b c d (take k hs) es h first block is))

pub handlers_whole : (a b : Code) (hs : List Handler) (k : ℕ) (es : List ℕ) → length hs ≤ k → MadeHandlers a b (take k hs) es → MadeHandlers a b hs es
handlers_whole a b hs k es past made = subst (λ l. MadeHandlers a b l es) (take_all k hs past) made
