-- A text has one first token at fault, and none where it has a tree.
use Rattle.std.proofs.Common.{◌≡◌, ℕ, zero, suc, ◌+◌, ◌≤◌, ◌<◌, Bool, true, List, [], ◌∷◌, ◌++◌, length, Ok, refl, sym, ap, ◌∙◌, subst, arith, inl, inr, append_assoc, append-nil, length-append}
use Rattle.std.proofs.lemmas.Bool.Decides.{nat_tests}
use Rattle.std.specs.List.{All}
use Rattle.std.specs.Prelude.{nat_lt, nat_le, ◌||◌, ◌⊎◌}
use Rattle.da_values.specs.Marks.{Tok}
use Rattle.da_lang.specs.declared.tree.Tree.{Tree}
use Rattle.da_lang.specs.Begins.{front_room}
use Rattle.da_lang.specs.Spelling.{IsSpelled, Room}
use Rattle.da_parse.specs.declared.whole.ParseFault.{ParseFault}
use Rattle.da_parse.specs.declared.whole.ParseFault.TheVariants as fault
use Rattle.da_parse.specs.Parameters.{IsProgramBy, SpellsBy, SpellsWithinBy, BeginsBy, BeginsWithinBy, NoneGoesOnBy, IsSyntaxBy, IsDeepBy, IsFirstBy}
use Rattle.da_parse.specs.Parse.{line_at}
use Rattle.da_parse.proofs.CompletePrograms.{program_in-complete}
use Rattle.da_parse.proofs.SoundPrograms.{program_in-sound}
use Rattle.da_parse.proofs.WholePrograms.{Always, program_wider, SpellsWithinBy_spells}
use Rattle.da_parse.proofs.FirstFaults.{late, late_allows}

-- ---- fewer tokens

late_few : (n d left : ℕ) → late n d left ≡ true → n < left → d < 32
unfolding late
late_few n d left e less = grind (arith, nat_tests, e, less)

-- where parameters may lack their types or may not
module _ (loose : Bool) where
  -- by another rule that allows what is open
  module _ (rest : List Tok) (size : ℕ) (tree : Tree) (i : List Tok) (within : IsProgramBy loose (front_room 32 rest) size tree i) where
    by_rule : (room : ℕ → Room) → ((d : ℕ) (t : List Tok) → (length rest < length t → d < 32) → room d t) → IsProgramBy loose room (suc size) tree i
    by_rule room fits =
        (program_in-sound (late (length rest)) room (λ d t e. fits d t (λ less. late_few (length rest) d (length t) e less)) loose (suc size) (suc size) (omega arith) (omega arith) i (tree, [])
        (program_in-complete (late (length rest)) (front_room 32 rest) (λ d t some. late_allows (length rest) d t some) loose size (suc size) (inl (omega arith)) tree i within)).0

  pub begins_shorter : (a b : List Tok) → BeginsBy loose (a ++ b) → BeginsBy loose a
  begins_shorter a b h = record { rest = b ++ h.rest; tree = h.tree; spells = subst (λ z. SpellsBy loose h.tree z) (append_assoc a b h.rest) h.spells }

  pub within_begins : (a : List Tok) → BeginsWithinBy loose 32 a → BeginsBy loose a
  unfolding SpellsBy
  within_begins a h = record { rest = h.rest; tree = h.tree; spells = (h.spelled, (suc h.size, by_rule h.rest h.size h.tree (a ++ h.rest) h.within Always (λ d t some. tt))) }

  pub within_shorter : (a b : List Tok) → BeginsWithinBy loose 32 (a ++ b) → BeginsWithinBy loose 32 a
  within_shorter a b h =
      let same = append_assoc a b h.rest in
      record {
        rest = b ++ h.rest;
        tree = h.tree;
        spelled = subst (λ z. All IsSpelled z) same h.spelled;
        size = suc h.size;
        within = subst (λ z. IsProgramBy loose (front_room 32 (b ++ h.rest)) (suc h.size) h.tree z) same
            (by_rule h.rest h.size h.tree ((a ++ b) ++ h.rest) h.within (front_room 32 (b ++ h.rest)) (λ d t some less. some (omega (arith, less, length-append b h.rest))));
      }

  -- ---- two places

  -- the longer of two fronts has the next token of the shorter one
  longer : (a b x y : List Tok) → a ++ x ≡ b ++ y → length a < length b → (t : Tok) × (z u : List Tok) × (x ≡ t ∷ u) × (b ≡ (a ++ t ∷ []) ++ z)
  longer [] [] x y e less = absurd (omega (arith, less))
  longer [] (t ∷ b) x y e less = (t, b, b ++ y, e, refl)
  longer (t ∷ a) [] x y e less = absurd (omega (arith, less))
  longer (t ∷ a) (u ∷ b) x y e less =
      let first : t ≡ u = cc in
      let others : a ++ x ≡ b ++ y = cc in
      let (v, z, w, is, whole) = longer a b x y others (omega (arith, less)) in
      (v, z, w, is, ap (λ n. u ∷ n) whole ∙ ap (λ s. s ∷ ((a ++ v ∷ []) ++ z)) (sym first))

  -- tokens that begin a program are no more than those before a token with which none goes on
  not_past : (a x b y : List Tok) → NoneGoesOnBy loose a x → BeginsBy loose b → a ++ x ≡ b ++ y → length a < length b → ⊥
  not_past a x b y none begins e less =
      let (t, z, u, is, whole) = longer a b x y e less in
      subst (NoneGoesOnBy loose a) is none (begins_shorter (a ++ t ∷ []) z (subst (BeginsBy loose) whole begins))

  not_deeper : (a : List Tok) (token : Tok) (x b y : List Tok) → (BeginsWithinBy loose 32 (a ++ token ∷ []) → ⊥) → BeginsWithinBy loose 32 b → a ++ token ∷ x ≡ b ++ y → length a < length b → ⊥
  not_deeper a token x b y deep begins e less =
      let (t, z, u, is, whole) = longer a b (token ∷ x) y e less in
      let same : token ≡ t = cc in
      deep (subst (λ s. BeginsWithinBy loose 32 (a ++ s ∷ [])) (sym same) (within_shorter (a ++ t ∷ []) z (subst (BeginsWithinBy loose 32) whole begins)))

  left_same : (a x b y : List Tok) → a ++ x ≡ b ++ y → length a ≡ length b → length x ≡ length y
  left_same a x b y e long = let whole : length (a ++ x) ≡ length (b ++ y) = ap length e in omega (arith, whole, length-append a x, length-append b y, long)

  -- of two numbers one is less, or they are the same
  three_ways : (n k : ℕ) → (n < k) ⊎ ((n ≡ k) ⊎ (k < n))
  three_ways n k = grind (arith)

  syntax_once : (i : List Tok) (line other : ℕ) → IsSyntaxBy loose i line → IsSyntaxBy loose i other → line ≡ other
  syntax_once i line other p q =
      let e : p.front ++ p.rest ≡ q.front ++ q.rest = sym p.whole ∙ q.whole in
      elim (three_ways (length p.front) (length q.front)) [
        | inl less ↦ absurd (not_past p.front p.rest q.front q.rest p.refused (within_begins q.front q.begins) e less)
        | inr others ↦ elim others [
          | inl same ↦ p.place ∙ ap (line_at i) (left_same p.front p.rest q.front q.rest e same) ∙ sym q.place
          | inr less ↦ absurd (not_past q.front q.rest p.front p.rest q.refused (within_begins p.front p.begins) (sym e) less)
        ]
      ]

  deep_once : (i : List Tok) (line other : ℕ) → IsDeepBy loose i line → IsDeepBy loose i other → line ≡ other
  deep_once i line other p q =
      let e : p.front ++ p.token ∷ p.rest ≡ q.front ++ q.token ∷ q.rest = sym p.whole ∙ q.whole in
      elim (three_ways (length p.front) (length q.front)) [
        | inl less ↦ absurd (not_deeper p.front p.token p.rest q.front (q.token ∷ q.rest) p.deep q.before e less)
        | inr others ↦ elim others [
          | inl same ↦ p.place ∙ ap (line_at i) (left_same p.front (p.token ∷ p.rest) q.front (q.token ∷ q.rest) e same) ∙ sym q.place
          | inr less ↦ absurd (not_deeper q.front q.token q.rest p.front (p.token ∷ p.rest) q.deep p.before (sym e) less)
        ]
      ]

  not_both : (i : List Tok) (line other : ℕ) → IsSyntaxBy loose i line → IsDeepBy loose i other → ⊥
  not_both i line other p q =
      let e : p.front ++ p.rest ≡ q.front ++ q.token ∷ q.rest = sym p.whole ∙ q.whole in
      let e1 : p.front ++ p.rest ≡ (q.front ++ q.token ∷ []) ++ q.rest = e ∙ sym (append_assoc q.front (q.token ∷ []) q.rest) in
      elim (three_ways (length q.front) (length p.front)) [
        | inl less ↦ not_deeper q.front q.token q.rest p.front p.rest q.deep p.begins (sym e) less
        | inr others ↦ not_past p.front p.rest (q.front ++ q.token ∷ []) q.rest p.refused q.begins e1 (up_to others)
      ]
    where
      up_to : (length q.front ≡ length p.front) ⊎ (length p.front < length q.front) → length p.front < length (q.front ++ q.token ∷ [])
      up_to (inl same) = omega (arith, same, length-append q.front (q.token ∷ []))
      up_to (inr less) = omega (arith, less, length-append q.front (q.token ∷ []))

  -- ---- with a tree

  none_whole : (front rest : List Tok) → NoneGoesOnBy loose front rest → (tree : Tree) → SpellsBy loose tree (front ++ rest) → ⊥
  none_whole front [] none tree spells = none tree (subst (λ z. SpellsBy loose tree z) (append-nil front) spells)
  none_whole front (t ∷ rest) none tree spells = none (record { rest = rest; tree = tree; spells = subst (λ z. SpellsBy loose tree z) (sym (append_assoc front (t ∷ []) rest)) spells })

  pub syntax_no_tree : (i : List Tok) (line : ℕ) → IsSyntaxBy loose i line → (tree : Tree) → SpellsBy loose tree i → ⊥
  syntax_no_tree i line p tree spells = none_whole p.front p.rest p.refused tree (subst (λ z. SpellsBy loose tree z) p.whole spells)

  pub deep_no_tree : (i : List Tok) (line : ℕ) → IsDeepBy loose i line → (tree : Tree) → SpellsWithinBy loose 32 tree i → ⊥
  unfolding SpellsWithinBy
  deep_no_tree i line p tree (all, within) =
      let same = p.whole ∙ sym (append_assoc p.front (p.token ∷ []) p.rest) in
      p.deep (record {
        rest = p.rest;
        tree = tree;
        spelled = subst (λ z. All IsSpelled z) same all;
        size = 33;
        within = subst (λ z. IsProgramBy loose (front_room 32 p.rest) 33 tree z) same (program_wider loose 32 (front_room 32 p.rest) 33 (λ d t few less. few) (omega arith) tree i within);
      })

  -- ---- one fault

  pub first_once : (i : List Tok) (one other : ParseFault) → IsFirstBy loose i one → IsFirstBy loose i other → one ≡ other
  first_once i (fault.Syntax line) (fault.Syntax there) p q = ap (λ n. fault.Syntax n) (syntax_once i line there p q)
  first_once i (fault.Syntax line) (fault.Deep there) p q = absurd (not_both i line there p q)
  first_once i (fault.Deep line) (fault.Syntax there) p q = absurd (not_both i there line q p)
  first_once i (fault.Deep line) (fault.Deep there) p q = ap (λ n. fault.Deep n) (deep_once i line there p q)
  first_once i fault.Memory other p q = absurd p
  first_once i one fault.Memory p q = absurd q

  pub first_no_tree : (i : List Tok) (why : ParseFault) → IsFirstBy loose i why → (tree : Tree) → SpellsWithinBy loose 32 tree i → ⊥
  first_no_tree i (fault.Syntax line) p tree spells = syntax_no_tree i line p tree (SpellsWithinBy_spells loose 32 tree i spells)
  first_no_tree i (fault.Deep line) p tree spells = deep_no_tree i line p tree spells
  first_no_tree i fault.Memory p tree spells = p
