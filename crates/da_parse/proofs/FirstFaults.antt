-- Where the reader stops is the first token at fault.
use Rattle.std.proofs.Common.{◌≡◌, ℕ, zero, suc, ◌+◌, ◌≤◌, ◌<◌, Bool, true, false, List, [], ◌∷◌, ◌++◌, length, Option, Some, None, Ok, Err, refl, sym, ap, ◌∙◌, subst, arith, inl, inr, append_assoc, length-append, append-nil, lt-ltb}
use Rattle.std.proofs.lemmas.Bool.Decides.{nat_tests}
use Rattle.std.proofs.lemmas.List.Elements.{All-nil, All-cons, All-head, All-tail, All-append}
use Rattle.std.specs.List.{All}
use Rattle.std.specs.Prelude.{nat_lt, nat_le, ◌||◌, ◌⊎◌}
use Rattle.da_values.specs.declared.token.Mark.{Mark}
use Rattle.da_values.specs.Marks.{Tok}
use Rattle.da_lang.specs.declared.tree.Tree.{Tree}
use Rattle.da_lang.specs.Begins.{front_room}
use Rattle.da_lang.specs.Spelling.{IsSpelled, Room}
use Rattle.da_phrases.specs.declared.cursor.Stop.{Stop}
use Rattle.da_phrases.specs.declared.cursor.Stop.TheVariants.{Syntax, Deep, Memory}
use Rattle.da_parse.specs.Parameters.{IsProgramBy, SpellsBy, BeginsBy, BeginsWithinBy, NoneGoesOnBy, IsSyntaxBy, IsDeepBy}
use Rattle.da_parse.specs.Parse.{line_at}
use Rattle.da_phrases.specs.Place.{Limit}
use Rattle.da_phrases.specs.Reader.{Reading}
use Rattle.da_parse.specs.Programs.{outermost, outer_by, program}
use Rattle.da_parse.proofs.CompletePrograms.{program_in-complete}
use Rattle.da_parse.proofs.SoundPrograms.{outermost_is}
use Rattle.da_parse.proofs.WholePrograms.{Always, always}
use Rattle.da_phrases.proofs.Samples.{onto}
use Rattle.da_phrases.proofs.SampleLaws.{onto-spelled}
use Rattle.da_phrases.proofs.Faults as f
use Rattle.da_phrases.proofs.Faults.{Shifted, not_longer, Placed, room_of, Cut, Told, Follows, ahead}
use Rattle.da_phrases.proofs.FaultTypes.{below}
use Rattle.da_parse.proofs.FaultOutermost.{programs-whole}

-- ---- lists

-- tokens that are the same up to a place, with what stands after it
pub shifted_front : {i r j s : List Tok} → Shifted i r j s → (front : List Tok) × (i ≡ front ++ r) × (j ≡ front ++ s)
shifted_front f.here = ([], refl, refl)
shifted_front (f.behind {t} a) = let (front, e, e1) = shifted_front a in (t ∷ front, ap (λ z. t ∷ z) e, ap (λ z. t ∷ z) e1)

pub shift_back : (front r s : List Tok) → Shifted (front ++ r) r (front ++ s) s
shift_back [] r s = f.here
shift_back (t ∷ front) r s = f.behind (shift_back front r s)

-- two ways to cut the same list at one place
same_cut : (a b x y : List Tok) → a ++ x ≡ b ++ y → length x ≡ length y → (a ≡ b) × (x ≡ y)
same_cut [] [] x y e long = (refl, e)
same_cut [] (u ∷ b) x y e long = let whole : length x ≡ length (u ∷ (b ++ y)) = ap length e in absurd (omega (arith, whole, length-append b y, long))
same_cut (t ∷ a) [] x y e long = let whole : length (t ∷ (a ++ x)) ≡ length y = ap length e in absurd (omega (arith, whole, length-append a x, long))
same_cut (t ∷ a) (u ∷ b) x y e long =
    let first : t ≡ u = cc in
    let others : a ++ x ≡ b ++ y = cc in
    let (same, left) = same_cut a b x y others long in
    (cc, left)

All-front : (a b : List Tok) → All IsSpelled (a ++ b) → All IsSpelled a
All-front [] b all = All-nil IsSpelled
All-front (t ∷ a) b all = All-cons IsSpelled t a (All-head IsSpelled t (a ++ b) all) (All-front a b (All-tail IsSpelled t (a ++ b) all))

-- ---- what stands before the place

not_so : false ≡ true → ⊥
not_so e = cc

-- the reader of the code, beside itself
abbrev plain : Cut
plain = record { most = 32; wider = below 32; from = []; to = []; same = refl; both = false; more = λ d i few. lt-ltb d 32 few; no = λ e d many. absurd (not_so e) }

module _ (loose : Bool) where
  -- what stands before the place is completed, by tokens that are spelled
  module _ (i : List Tok) (all : All IsSpelled i) (stop : Stop) (e : program (outermost loose) i ≡ Err stop) where
    at_32 : program (outer_by loose (below 32) 32) i ≡ Err stop
    at_32 = subst (λ o. program o i ≡ Err stop) (outermost_is loose) e

    completed : (wide : Bool) (k : ℕ) → Placed wide stop k → (front r more : List Tok) × (n : ℕ) × (tree : Tree)
        × (i ≡ front ++ r) × (k ≡ length r) × (n ≡ length more) × All IsSpelled (front ++ more) × IsProgramBy loose (room_of 32 wide n) 33 tree (front ++ more)
    completed wide k there =
        let (r, w, is, go) = ((programs-whole loose plain 32 32 (omega arith) (omega arith) (omega arith)).good.viable tt).stops i tt stop wide k there at_32 in
        let (tree, j, a, spells) = go (length (onto w [])) [] (omega arith) in
        let (front, e1, e2) = shifted_front a in
        let spelled = All-append IsSpelled front (onto w []) (All-front front r (subst (λ z. All IsSpelled z) e1 all)) (onto-spelled w [] (All-nil IsSpelled)) in
        (front, r, onto w [], length (onto w []), tree, e1, is, refl, spelled, subst (λ z. IsProgramBy loose (room_of 32 wide (length (onto w []))) 33 tree z) e2 (spells refl))

    before : (k : ℕ) → Placed false stop k → (front r : List Tok) × (i ≡ front ++ r) × (k ≡ length r) × BeginsWithinBy loose 32 front
    before k there =
        let (front, r, more, n, tree, e1, is, size, spelled, within) = completed false k there in
        (front, r, e1, is, record { rest = more; tree = tree; spelled = spelled; size = 33; within = subst (λ z. IsProgramBy loose (room_of 32 false z) 33 tree (front ++ more)) size within })

    after : (k : ℕ) → Placed true stop k → (front r : List Tok) × (i ≡ front ++ r) × (k ≡ length r) × BeginsBy loose front
    unfolding SpellsBy
    after k there =
        let (front, r, more, n, tree, e1, is, size, spelled, within) = completed true k there in
        (front, r, e1, is, record { rest = more; tree = tree; spells = (spelled, (33, within)) })

  -- it is told of a token
  no_deep : (i : List Tok) → program (outermost loose) i ≡ Err (Deep 0) → ⊥
  no_deep i e =
      let (r, w, is, go) = ((programs-whole loose plain 32 32 (omega arith) (omega arith) (omega arith)).good.viable tt).stops i tt (Deep 0) true (suc (length i)) (inr refl) (subst (λ o. program o i ≡ Err (Deep 0)) (outermost_is loose) e) in
      let (tree, j, a, spells) = go (length (onto w [])) [] (omega arith) in
      omega (arith, not_longer a, is)

-- ---- what does not go on

-- where the other reader may open whatever there is
abbrev any_cut : (r s : List Tok) → ahead r ≡ ahead s → Cut
any_cut r s same = record { most = 32; wider = always; from = r; to = s; same = same; both = false; more = λ d i few. refl; no = λ e d many. absurd (not_so e) }

-- where it may open up to 32 things before the last so many tokens
unfoldable pub late : ℕ → Limit
late n d left = nat_le left n || nat_lt d 32

late_more : (n d left : ℕ) → d < 32 → late n d left ≡ true
unfolding late
late_more n d left few = grind (arith, nat_tests, few)

late_no : (n d : ℕ) → (d < 32 → ⊥) → late n d (suc n) ≡ false
unfolding late
late_no n d many = let most : 32 ≤ d = grind (arith, many) in grind (arith, nat_tests, most)

pub late_allows : (n d : ℕ) (t : List Tok) → (n < length t → d < 32) → late n d (length t) ≡ true
unfolding late
late_allows n d t h = grind (arith, nat_tests, h)

abbrev late_cut : (token : Tok) (r s : List Tok) → Cut
late_cut token r s = record {
  most = 32;
  wider = late (length s);
  from = token ∷ r;
  to = token ∷ s;
  same = refl;
  both = true;
  more = λ d i few. late_more (length s) d (length i) few;
  no = λ e d many. late_no (length s) d many;
}

refuted : (c : Cut) (stop : Stop) → Told c stop → (o other : Reading Tree) → o ≡ Err stop → Follows c o other → (y : Tree × List Tok) → other ≡ Ok y → ⊥
refuted c stop told (Ok z) other e follows y reads = cc
refuted c stop told (Err s) other e follows y reads =
    let same_stop : stop ≡ s = cc in
    follows (subst (Told c) same_stop told) y reads

module _ (loose : Bool) where
  read_all : (front r s : List Tok) (same : ahead r ≡ ahead s) → program (outermost loose) (front ++ r) ≡ Err (Syntax (length r)) → (n : ℕ) (tree : Tree) → IsProgramBy loose Always n tree (front ++ s) → ⊥
  read_all front r s same e n tree spells =
      let c = any_cut r s same in
      let h : ℕ = 33 + n in
      let reads = program_in-complete always Always (λ d t some. refl) loose n h (inl (omega arith)) tree (front ++ s) spells in
      let follows = (programs-whole loose c h 32 (omega arith) (omega arith) (omega arith)).good.local tt (front ++ r) tt (front ++ s) (shift_back front r s) in
      refuted c (Syntax (length r)) refl (program (outer_by loose (below 32) 32) (front ++ r)) (program (outer_by loose always h) (front ++ s)) (subst (λ o. program o (front ++ r) ≡ Err (Syntax (length r))) (outermost_is loose) e) follows (tree, []) reads

  none_goes_on : (front r : List Tok) → program (outermost loose) (front ++ r) ≡ Err (Syntax (length r)) → NoneGoesOnBy loose front r
  unfolding SpellsBy
  none_goes_on front [] e = λ tree spells. read_all front [] [] refl e spells.1.0 tree (subst (λ z. IsProgramBy loose Always spells.1.0 tree z) (sym (append-nil front)) spells.1.1)
  none_goes_on front (token ∷ r) e = λ begins.
      let (n, spells) = begins.spells.1 in
      read_all front (token ∷ r) (token ∷ begins.rest) refl e n begins.tree (subst (λ z. IsProgramBy loose Always n begins.tree z) (append_assoc front (token ∷ []) begins.rest) spells)

  too_deep : (front : List Tok) (token : Tok) (r : List Tok) → program (outermost loose) (front ++ token ∷ r) ≡ Err (Deep (length (token ∷ r))) → BeginsWithinBy loose 32 (front ++ token ∷ []) → ⊥
  too_deep front token r e begins =
      let s = begins.rest in
      let c = late_cut token r s in
      let h : ℕ = 33 + begins.size in
      let spells = subst (λ z. IsProgramBy loose (front_room 32 s) begins.size begins.tree z) (append_assoc front (token ∷ []) s) begins.within in
      let reads = program_in-complete (late (length s)) (front_room 32 s) (λ d t some. late_allows (length s) d t some) loose begins.size h (inl (omega arith)) begins.tree (front ++ token ∷ s) spells in
      let follows = (programs-whole loose c h 32 (omega arith) (omega arith) (omega arith)).good.local tt (front ++ token ∷ r) tt (front ++ token ∷ s) (shift_back front (token ∷ r) (token ∷ s)) in
      refuted c (Deep (length (token ∷ r))) (refl, refl) (program (outer_by loose (below 32) 32) (front ++ token ∷ r)) (program (outer_by loose (late (length s)) h) (front ++ token ∷ s)) (subst (λ o. program o (front ++ token ∷ r) ≡ Err (Deep (length (token ∷ r)))) (outermost_is loose) e) follows (begins.tree, []) reads

  -- ---- the first token at fault

  deep_at : (i : List Tok) (left : ℕ) → program (outermost loose) i ≡ Err (Deep (suc left)) → (front r : List Tok) → i ≡ front ++ r → suc left ≡ length r → BeginsWithinBy loose 32 front
      → (front1 r1 : List Tok) → i ≡ front1 ++ r1 → left ≡ length r1 → BeginsBy loose front1 → IsDeepBy loose i (line_at i (suc left))
  deep_at i left e front [] e1 is begins front1 r1 e2 is1 goes = absurd (omega (arith, is))
  deep_at i left e front (token ∷ r) e1 is begins front1 r1 e2 is1 goes =
      let long : length r1 ≡ length r = omega (arith, is, is1) in
      let both : front1 ++ r1 ≡ (front ++ token ∷ []) ++ r = sym e2 ∙ e1 ∙ sym (append_assoc front (token ∷ []) r) in
      let (same, others) = same_cut front1 (front ++ token ∷ []) r1 r both long in
      let here : program (outermost loose) (front ++ token ∷ r) ≡ Err (Deep (length (token ∷ r))) = subst (λ z. program (outermost loose) z ≡ Err (Deep (length (token ∷ r)))) e1 (e ∙ ap (λ n. Err (Deep n)) is) in
      record { front = front; token = token; rest = r; whole = e1; before = begins; begins = subst (BeginsBy loose) same goes; deep = too_deep front token r here; place = ap (line_at i) is }

  pub syntax_is_first : (i : List Tok) → All IsSpelled i → (left : ℕ) → program (outermost loose) i ≡ Err (Syntax left) → IsSyntaxBy loose i (line_at i left)
  syntax_is_first i all left e =
      let (front, r, e1, is, begins) = before loose i all (Syntax left) e left refl in
      let here : program (outermost loose) (front ++ r) ≡ Err (Syntax (length r)) = subst (λ z. program (outermost loose) z ≡ Err (Syntax (length r))) e1 (e ∙ ap (λ n. Err (Syntax n)) is) in
      record { front = front; rest = r; whole = e1; begins = begins; refused = none_goes_on front r here; place = ap (line_at i) is }

  pub deep_is_first : (i : List Tok) → All IsSpelled i → (left : ℕ) → program (outermost loose) i ≡ Err (Deep left) → IsDeepBy loose i (line_at i left)
  deep_is_first i all zero e = absurd (no_deep loose i e)
  deep_is_first i all (suc left) e =
      let (front, r, e1, is, begins) = before loose i all (Deep (suc left)) e (suc left) refl in
      let (front1, r1, e2, is1, goes) = after loose i all (Deep (suc left)) e left (inl refl) in
      deep_at i left e front r e1 is begins front1 r1 e2 is1 goes
