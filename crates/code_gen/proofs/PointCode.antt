-- The code that is added for labels and for `await`.
use Rattle.std.proofs.Common.{◌≡◌, ℕ, suc, ◌+◌, ◌^◌, ◌<◌, ◌≤◌, true, false, List, [], ◌∷◌, ◌++◌, length, Some, refl, sym, ap, ◌∙◌, subst, arith, inl, inr, ◌⊎◌}
use Rattle.std.specs.Prelude.{flat_map, is_some, slice_get, slice_set}
use Rattle.std.specs.List.{AllByRecursion}
use Rattle.std.proofs.Math.ListN.{length-set}
use Rattle.std.proofs.lemmas.Option.{slice_get_within}
use Rattle.da_lang.specs.declared.code.Instr.{Instr}
use Rattle.da_lang.specs.declared.code.Instr.TheVariants as op
use Rattle.da_lang.specs.declared.program.Class.{Class}
use Rattle.da_lang.specs.declared.program.Item.{Item}
use Rattle.da_machine.specs.declared.code.Code.{Code}
use Rattle.da_machine.specs.declared.code.YieldPoint.{YieldPoint}
use Rattle.da_machine.specs.CodeFor.{Has, BlocksAt, ItemAt}
use Rattle.da_machine.specs.Points.{AtAwait, AtLabel, IsNumbered, Point, Points, class_points, ways_of}
use Rattle.code_gen.specs.declared.emit.OpenAwait.{OpenAwait}
use Rattle.code_gen.specs.Made.{AreNumbered, Awaiting, Grown, MadeAwait, MadeBlock, MadeBlocks, MadeLabel, added, block_points, closed, end_of, filled, patched, pointed, repointed, reserved}
use Rattle.code_gen.proofs.Growing.{fill_end, fill_grown, fill_has, fill_keeps, grown_on, holes_may_be, none_then, put_end, put_grown, put_has, stays_has, then_none}
use Rattle.code_gen.proofs.ItemCode.{block_holes, blocks_written, made_blocks_next, made_no_block}
use Rattle.code_gen.proofs.Kept.{Keeps, grown_keeps, is_hole, is_reserved, keeps_on}
use Rattle.code_gen.proofs.Lists.{at_the_end, elsewhere, in_front, lies, one_longer, stays_as_it_is, where_set}
use Rattle.code_gen.proofs.PointLaws.{rest_numbers}

-- a yield point more
pub point_grown : (a b : Code) (y : YieldPoint) → b ≡ pointed a y → Grown a b 1
point_grown a b y is = subst (λ c. Grown a c 1) (sym is) (record { instrs = stays_as_it_is a.instrs; yields = λ k inside. in_front a.yields (y ∷ []) k inside; count = one_longer a.yields y })

pub point_there : (a b : Code) (y : YieldPoint) → b ≡ pointed a y → slice_get b.yields (length a.yields) ≡ Some y
point_there a b y is = subst (λ c. slice_get c.yields (length a.yields) ≡ Some y) (sym is) (at_the_end a.yields y)

pub point_stays : (a b : Code) (n k : ℕ) (y : YieldPoint) → Grown a b n → slice_get a.yields k ≡ Some y → slice_get b.yields k ≡ Some y
point_stays a b n k y grown there = grown.yields k (slice_get_within a.yields k y there) ∙ there

-- another one in the place of one that was reserved
pub repoint_grown : (a c : Code) (n k : ℕ) (y : YieldPoint) → Grown a c n → length a.yields ≤ k → Grown a (repointed c k y) n
repoint_grown a c n k y grown behind = record {
  instrs = grown.instrs;
  yields = λ j inside. elsewhere c.yields k y j (inl (omega (arith, behind))) ∙ grown.yields j inside;
  count = length-set c.yields k y ∙ grown.count;
}

kept_elsewhere : (c : Code) (k : ℕ) (y : YieldPoint) (j : ℕ) (z : YieldPoint) → slice_get c.yields k ≡ Some reserved → is_reserved z.label z.entries ≡ false → slice_get c.yields j ≡ Some z → (j < k) ⊎ ((j ≡ k) ⊎ (k < j)) → slice_get (slice_set c.yields k y) j ≡ Some z
kept_elsewhere c k y j z hole real there (inl less) = elsewhere c.yields k y j (inl less) ∙ there
kept_elsewhere c k y j z hole real there (inr (inr more)) = elsewhere c.yields k y j (inr more) ∙ there
kept_elsewhere c k y j z hole real there (inr (inl same)) =
    let both : Some reserved ≡ Some z = sym hole ∙ ap (slice_get c.yields) (sym same) ∙ there in
    let one : reserved ≡ z = cc in
    let bad : true ≡ false = ap (λ (w : YieldPoint). is_reserved w.label w.entries) one ∙ real in
    absurd (cc)

pub repoint_keeps : (c : Code) (k : ℕ) (y : YieldPoint) → slice_get c.yields k ≡ Some reserved → Keeps c (repointed c k y)
repoint_keeps c k y hole = record {
  instrs = λ at i real has. has;
  yields = λ j z real there. kept_elsewhere c k y j z hole real there (lies j k);
}

-- the number of the first of numbered points, which 32 bits count
first_number : (class : Class) (from : ℕ) (point : Point) (ps : Points) → AreNumbered class from (point ∷ ps) → IsNumbered class from point
first_number class from point ps all = let zero_more : from + 0 ≡ from = omega arith in subst (λ k. IsNumbered class k point) zero_more (all.each 0 point refl)

small_number : (class : Class) (from : ℕ) (point : Point) (ps : Points) → AreNumbered class from (point ∷ ps) → from < 2 ^ 32
small_number class from point ps all = omega (arith, slice_get_within (class_points class) from point (first_number class from point ps all), all.few)

pub all_still : (c d : Code) (i : Instr) (places : List ℕ) → is_hole i ≡ false → Keeps c d → AllByRecursion (λ at. Has c at i) places → AllByRecursion (λ at. Has d at i) places
all_still c d i [] real keeps all = tt
all_still c d i (at ∷ places) real keeps all = (keeps.instrs at i real all.0, all_still c d i places real keeps all.1)

-- a label: the instruction, and its yield point
pub made_label : (a b c : Code) (number : ℕ) (entry : ℕ) (entries : List ℕ) → (length a.yields < 2 ^ 32 → number ≡ length a.yields) → b ≡ added a (op.Yield number) → entry ≡ end_of b → entries ≡ entry ∷ [] → c ≡ pointed b (record { label = true; entries = entries }) → MadeLabel a c
made_label a b c number entry entries is_number is_b is_entry is_entries is_c =
    let ab = put_grown a b _ is_b in
    let bc = point_grown b c _ is_c in
    let end_b = put_end a b _ is_b in
    let end_c : end_of c ≡ end_of a + 1 = ap end_of is_c ∙ end_b in
    let same : length b.yields ≡ length a.yields = omega (arith, ab.count) in
    let listed : entries ≡ (end_of a + 1) ∷ [] = is_entries ∙ ap (λ n. n ∷ []) (is_entry ∙ end_b) in
    let there = subst (λ k. slice_get c.yields k ≡ Some (record { label = true; entries = entries })) same (point_there b c _ is_c) in
    let point = subst (λ l. slice_get c.yields (length a.yields) ≡ Some (record { label = true; entries = l })) listed there in
    let has_c = stays_has b c 1 (end_of a) _ bc (put_has a b _ is_b) in
    record {
      grown = none_then a b c 1 ab bc;
      stands = λ class label numbered i is.
          let own = first_number class (length a.yields) (AtLabel label) [] numbered in
          let has = subst (λ k. Has c (end_of a) (op.Yield k)) (is_number (small_number class (length a.yields) (AtLabel label) [] numbered)) has_c in
          subst (λ n. ItemAt c class (end_of a) i n) (sym end_c) (ItemAt.label is has point own);
    }

-- an `await`: its yield point is reserved up to b, and its instruction stands
pub await_begun : (a b c : Code) (number : ℕ) (none : List ℕ) (begun : OpenAwait) → (length a.yields < 2 ^ 32 → number ≡ length a.yields) → none ≡ [] → b ≡ pointed a (record { label = true; entries = none }) → c ≡ added b (op.Yield number)
    → begun.at ≡ length a.yields → begun.entries ≡ [] → begun.leaves ≡ [] → Awaiting a c [] begun
await_begun a b c number none begun small is_none reserved_so is_c place no_entry no_leave =
    let is_b : b ≡ pointed a reserved = reserved_so ∙ ap (λ l. pointed a (record { label = true; entries = l })) is_none in
    record {
      first = c;
      number = number;
      small = small;
      begins = is_c ∙ ap (λ z. added z (op.Yield number)) is_b;
      place = place;
      blocks = subst (λ l. MadeBlocks c c [] l begun.leaves) (sym no_entry) (subst (MadeBlocks c c [] []) (sym no_leave) (made_no_block c));
    }

-- a block more, up to d
pub await_entered : (a b c d : Code) (bodies : List (List Item)) (begun now : OpenAwait) (entry leave : ℕ) (body : List Item) → entry ≡ end_of b → MadeBlock b c body → leave ≡ end_of c → d ≡ added c op.End
    → now.at ≡ begun.at → now.entries ≡ begun.entries ++ entry ∷ [] → now.leaves ≡ begun.leaves ++ leave ∷ [] → Awaiting a b bodies begun → Awaiting a d (bodies ++ body ∷ []) now
await_entered a b c d bodies begun now entry leave body is_entry block is_leave is_d same entries leaves awaiting = record {
  first = awaiting.first;
  number = awaiting.number;
  small = awaiting.small;
  begins = awaiting.begins;
  place = same ∙ awaiting.place;
  blocks = made_blocks_next awaiting.first b c d bodies begun.entries now.entries begun.leaves now.leaves entry leave body awaiting.blocks is_entry entries block is_leave leaves is_d;
}

-- the jumps after its blocks, and its yield point
pub made_await : (a d f : Code) (bodies : List (List Item)) (begun : OpenAwait) → Awaiting a d bodies begun → f ≡ closed d begun → MadeAwait a f bodies
made_await a d f bodies begun awaiting is_f =
    let entries = begun.entries in
    let leaves = begun.leaves in
    let b = pointed a reserved in
    let c = awaiting.first in
    let j = op.Jump (end_of d) in
    let e = filled d leaves j in
    let y : YieldPoint = record { label = false; entries = entries } in
    let ps = flat_map block_points bodies in
    let n = length ps in
    let ab = point_grown a b reserved refl in
    let bc = put_grown b c _ awaiting.begins in
    let ac = then_none a b c 1 ab bc in
    let cd = awaiting.blocks.grown in
    let ce : Grown c e n = fill_grown j c d n leaves cd awaiting.blocks.behind in
    let be = none_then b c e n bc ce in
    let ae = grown_on a b e 1 n ab be in
    let whole : 1 + n ≡ suc n = omega arith in
    let at_e : slice_get e.yields begun.at ≡ Some reserved = subst (λ k. slice_get e.yields k ≡ Some reserved) (sym awaiting.place) (point_stays b e n (length a.yields) reserved be (point_there a b reserved refl)) in
    let ef : Keeps e f = subst (Keeps e) (sym is_f) (repoint_keeps e begun.at y at_e) in
    let end_f : end_of f ≡ end_of d = ap end_of is_f ∙ fill_end j d leaves in
    let end_c : end_of c ≡ end_of a + 1 = put_end b c _ awaiting.begins in
    let cf = keeps_on c e f (grown_keeps c e n ce) ef in
    let has_f : Has f (end_of a) (op.Yield awaiting.number) = cf.instrs (end_of a) _ refl (put_has b c _ awaiting.begins) in
    let point_f = subst (λ z. slice_get z.yields begun.at ≡ Some y) (sym is_f) (where_set e.yields begun.at y (slice_get_within e.yields begun.at reserved at_e)) in
    let point = subst (λ k. slice_get f.yields k ≡ Some y) awaiting.place point_f in
    record {
      grown = subst (Grown a f) whole (subst (λ z. Grown a z (1 + n)) (sym is_f) (repoint_grown a e (1 + n) begun.at y ae (omega (arith, awaiting.place))));
      stands = λ class alts timeout label same numbered i is.
          let mine = AtAwait (ways_of alts) (is_some timeout) label in
          let own = first_number class (length a.yields) mine ps numbered in
          let has = subst (λ k. Has f (end_of a) (op.Yield k)) (awaiting.small (small_number class (length a.yields) mine ps numbered)) has_f in
          let others = rest_numbers class (length a.yields) (mine ∷ []) ps numbered in
          let at_c = subst (λ k. AreNumbered class k ps) (sym ac.count) others in
          let open_d = awaiting.blocks.stands class at_c in
          let may = holes_may_be j d leaves (block_holes d class (end_of c) bodies (end_of d) entries leaves open_d) in
          let df = keeps_on d e f (fill_keeps j d leaves may) ef in
          let written = all_still e f j leaves refl ef (fill_has j d leaves may) in
          let blocks = blocks_written d f class (end_of c) bodies (end_of d) entries leaves open_d df written in
          let here = subst (λ m. BlocksAt f class (end_of d) m bodies entries) end_c blocks in
          subst (λ m. ItemAt f class (end_of a) i m) (sym end_f)
          (ItemAt.await is has point own (subst (λ l. BlocksAt f class (end_of d) (end_of a + 1) l entries) (sym same) here));
    }
