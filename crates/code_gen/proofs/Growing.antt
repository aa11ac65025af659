-- Instructions that are added, and those that replace a hole.
use Rattle.std.proofs.Common.{◌≡◌, ℕ, ◌+◌, ◌<◌, ◌≤◌, true, false, List, [], ◌∷◌, Some, refl, sym, ap, ◌∙◌, subst, arith, inl, inr, ◌⊎◌}
use Rattle.std.specs.List.{AllByRecursion}
use Rattle.std.proofs.Math.ListN.{length-set}
use Rattle.std.proofs.lemmas.Option.{slice_get_within}
use Rattle.da_lang.specs.declared.code.Instr.{Instr}
use Rattle.da_lang.specs.declared.code.Instr.TheVariants as op
use Rattle.da_machine.specs.declared.code.Code.{Code}
use Rattle.da_machine.specs.CodeFor.{Has}
use Rattle.code_gen.specs.Made.{AreAfter, Grown, added, end_of, filled, patched}
use Rattle.code_gen.proofs.Kept.{Keeps, is_hole, keeps_on}
use Rattle.code_gen.proofs.Lists.{at_the_end, elsewhere, lies, one_longer, stays_as_it_is, stays_on, stays_where_set, stays_with_more, where_set}

pub grown_none : (a : Code) → Grown a a 0
grown_none a = record { instrs = stays_as_it_is a.instrs; yields = λ k inside. refl; count = omega arith }

pub grown_on : (a b c : Code) (m n : ℕ) → Grown a b m → Grown b c n → Grown a c (m + n)
grown_on a b c m n first second = record {
  instrs = stays_on a.instrs b.instrs c.instrs first.instrs second.instrs;
  yields = λ k inside. second.yields k (omega (arith, first.count)) ∙ first.yields k inside;
  count = omega (arith, first.count, second.count);
}

-- the same where one of the two steps adds no yield point
pub then_none : (a b c : Code) (n : ℕ) → Grown a b n → Grown b c 0 → Grown a c n
then_none a b c n first second = subst (Grown a c) (omega arith) (grown_on a b c n 0 first second)

pub none_then : (a b c : Code) (n : ℕ) → Grown a b 0 → Grown b c n → Grown a c n
none_then a b c n first second = subst (Grown a c) (omega arith) (grown_on a b c 0 n first second)

-- an instruction more
pub put_grown : (a b : Code) (i : Instr) → b ≡ added a i → Grown a b 0
put_grown a b i is = subst (λ c. Grown a c 0) (sym is) (record { instrs = stays_with_more a.instrs i; yields = λ k inside. refl; count = omega arith })

pub put_has : (a b : Code) (i : Instr) → b ≡ added a i → Has b (end_of a) i
put_has a b i is = subst (λ c. Has c (end_of a) i) (sym is) (at_the_end a.instrs i)

pub put_end : (a b : Code) (i : Instr) → b ≡ added a i → end_of b ≡ end_of a + 1
put_end a b i is = ap end_of is ∙ one_longer a.instrs i

pub stays_has : (a b : Code) (n at : ℕ) (i : Instr) → Grown a b n → Has a at i → Has b at i
stays_has a b n at i grown has = grown.instrs.same at (slice_get_within a.instrs at i has) ∙ has

-- another instruction in the place of a hole
pub patch_end : (c : Code) (at : ℕ) (i : Instr) → end_of (patched c at i) ≡ end_of c
patch_end c at i = length-set c.instrs at i

pub patch_grown : (a c : Code) (n at : ℕ) (i : Instr) → Grown a c n → end_of a ≤ at → Grown a (patched c at i) n
patch_grown a c n at i grown behind = record { instrs = stays_where_set a.instrs c.instrs at i grown.instrs behind; yields = grown.yields; count = grown.count }

pub patch_has : (c : Code) (at : ℕ) (i j : Instr) → Has c at j → Has (patched c at i) at i
patch_has c at i j has = where_set c.instrs at i (slice_get_within c.instrs at j has)

pub patch_other : (c : Code) (at : ℕ) (i : Instr) (k : ℕ) (j : Instr) → (k < at) ⊎ (at < k) → Has c k j → Has (patched c at i) k j
patch_other c at i k j apart has = elsewhere c.instrs at i k apart ∙ has

-- what stood there was a hole, or the same instruction
abbrev pub MayBe : Code → ℕ → Instr → Type 0
MayBe c at i = Has c at op.End ⊎ Has c at i

same_instr : (c : Code) (at : ℕ) (i j : Instr) → Has c at i → Has c at j → Some i ≡ Some j
same_instr c at i j here there = sym here ∙ there

hole_is_real : (c : Code) (at : ℕ) (i : Instr) → Has c at op.End → Has c at i → is_hole i ≡ false → ⊥
hole_is_real c at i hole has real =
    let both = same_instr c at op.End i hole has in
    let one : op.End ≡ i = cc in
    let bad : true ≡ false = ap is_hole one ∙ real in
    cc

at_hole : (c : Code) (at : ℕ) (i j : Instr) → MayBe c at i → is_hole j ≡ false → Has c at j → Has (patched c at i) at j
at_hole c at i j (inl hole) real has = absurd (hole_is_real c at j hole has real)
at_hole c at i j (inr same) real has =
    let both = same_instr c at i j same has in
    let one : i ≡ j = cc in
    subst (λ z. Has (patched c at i) at z) one (patch_has c at i i same)

patch_keeps_at : (c : Code) (at : ℕ) (i : Instr) (k : ℕ) (j : Instr) → MayBe c at i → is_hole j ≡ false → Has c k j → (k < at) ⊎ ((k ≡ at) ⊎ (at < k)) → Has (patched c at i) k j
patch_keeps_at c at i k j may real has (inl less) = patch_other c at i k j (inl less) has
patch_keeps_at c at i k j may real has (inr (inr more)) = patch_other c at i k j (inr more) has
patch_keeps_at c at i k j may real has (inr (inl same)) = subst (λ n. Has (patched c at i) n j) (sym same) (at_hole c at i j may real (subst (λ n. Has c n j) same has))

pub patch_keeps_if : (c : Code) (at : ℕ) (i : Instr) → MayBe c at i → Keeps c (patched c at i)
patch_keeps_if c at i may = record {
  instrs = λ k j real has. patch_keeps_at c at i k j may real has (lies k at);
  yields = λ k y real has. has;
}

pub patch_keeps : (c : Code) (at : ℕ) (i : Instr) → Has c at op.End → Keeps c (patched c at i)
patch_keeps c at i hole = patch_keeps_if c at i (inl hole)

-- the same instruction in the place of each of several holes
module _ (i : Instr) where
  abbrev pub MayBeAll : Code → List ℕ → Type 0
  MayBeAll c places = AllByRecursion (λ at. MayBe c at i) places

  may_be_still_at : (c : Code) (at k : ℕ) → MayBe c at i → MayBe c k i → (k < at) ⊎ ((k ≡ at) ⊎ (at < k)) → MayBe (patched c at i) k i
  may_be_still_at c at k here (inl hole) (inl less) = inl (patch_other c at i k op.End (inl less) hole)
  may_be_still_at c at k here (inr has) (inl less) = inr (patch_other c at i k i (inl less) has)
  may_be_still_at c at k here (inl hole) (inr (inr more)) = inl (patch_other c at i k op.End (inr more) hole)
  may_be_still_at c at k here (inr has) (inr (inr more)) = inr (patch_other c at i k i (inr more) has)
  may_be_still_at c at k (inl hole) there (inr (inl same)) = inr (subst (λ n. Has (patched c at i) n i) (sym same) (patch_has c at i op.End hole))
  may_be_still_at c at k (inr has) there (inr (inl same)) = inr (subst (λ n. Has (patched c at i) n i) (sym same) (patch_has c at i i has))

  all_may_be_still : (c : Code) (at : ℕ) (places : List ℕ) → MayBe c at i → MayBeAll c places → MayBeAll (patched c at i) places
  all_may_be_still c at [] here all = tt
  all_may_be_still c at (k ∷ places) here all = (may_be_still_at c at k here all.0 (lies k at), all_may_be_still c at places here all.1)

  pub fill_keeps : (c : Code) (places : List ℕ) → MayBeAll c places → Keeps c (filled c places i)
  fill_keeps c [] all = record { instrs = λ k j real has. has; yields = λ k y real has. has }
  fill_keeps c (at ∷ places) all =
      keeps_on c (patched c at i) (filled (patched c at i) places i) (patch_keeps_if c at i all.0) (fill_keeps (patched c at i) places (all_may_be_still c at places all.0 all.1))

  written_still_at : (c : Code) (at k : ℕ) → Has c k i → (k < at) ⊎ ((k ≡ at) ⊎ (at < k)) → Has (patched c at i) k i
  written_still_at c at k has (inl less) = patch_other c at i k i (inl less) has
  written_still_at c at k has (inr (inr more)) = patch_other c at i k i (inr more) has
  written_still_at c at k has (inr (inl same)) = subst (λ n. Has (patched c at i) n i) (sym same) (patch_has c at i i (subst (λ n. Has c n i) same has))

  written_still : (c : Code) (places : List ℕ) (k : ℕ) → Has c k i → Has (filled c places i) k i
  written_still c [] k has = has
  written_still c (at ∷ places) k has = written_still (patched c at i) places k (written_still_at c at k has (lies k at))

  written_here : (c : Code) (at : ℕ) → MayBe c at i → Has (patched c at i) at i
  written_here c at (inl hole) = patch_has c at i op.End hole
  written_here c at (inr has) = patch_has c at i i has

  pub fill_has : (c : Code) (places : List ℕ) → MayBeAll c places → AllByRecursion (λ at. Has (filled c places i) at i) places
  fill_has c [] all = tt
  fill_has c (at ∷ places) all =
      (written_still (patched c at i) places at (written_here c at all.0), fill_has (patched c at i) places (all_may_be_still c at places all.0 all.1))

  pub fill_end : (c : Code) (places : List ℕ) → end_of (filled c places i) ≡ end_of c
  fill_end c [] = refl
  fill_end c (at ∷ places) = fill_end (patched c at i) places ∙ patch_end c at i

  pub fill_grown : (a c : Code) (n : ℕ) (places : List ℕ) → Grown a c n → AreAfter a places → Grown a (filled c places i) n
  fill_grown a c n [] grown behind = grown
  fill_grown a c n (at ∷ places) grown behind = fill_grown a (patched c at i) n places (patch_grown a c n at i grown behind.0) behind.1

abbrev pub AreHoles : Code → List ℕ → Type 0
AreHoles c places = AllByRecursion (λ at. Has c at op.End) places

pub holes_may_be : (i : Instr) (c : Code) (places : List ℕ) → AreHoles c places → MayBeAll i c places
holes_may_be i c [] all = tt
holes_may_be i c (at ∷ places) all = (inl all.0, holes_may_be i c places all.1)
