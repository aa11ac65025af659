-- Whole programs: what the reader of the code reads is what the tokens spell, which is one tree, however many things may be open.
use Rattle.std.proofs.Common.{◌≡◌, ℕ, suc, ◌+◌, ◌<◌, ◌≤◌, Bool, true, false, List, [], Ok, Err, refl, sym, ap, ◌∙◌, subst, arith, inl, inr}
use Rattle.std.proofs.lemmas.Bool.Decides.{nat_tests}
use Rattle.std.specs.Prelude.{nat_lt}
use Rattle.da_values.specs.Marks.{Tok}
use Rattle.da_lang.specs.declared.tree.Tree.{Tree}
use Rattle.da_lang.specs.Spelling.{Room}
use Rattle.da_lang.specs.Grammar.{Spells, SpellsWithin}
use Rattle.da_phrases.specs.declared.cursor.Stop.{Stop}
use Rattle.da_parse.specs.Parameters.{IsProgramBy, SpellsBy, SpellsWithinBy}
use Rattle.da_parse.specs.Parse.{answer, parsed_by}
use Rattle.da_phrases.specs.Reader.{Reading}
use Rattle.da_phrases.specs.Place.{Limit, at_most_32}
use Rattle.da_parse.specs.Programs.{outermost, program}
use Rattle.da_phrases.proofs.Steps.{read_or}
use Rattle.da_parse.proofs.SoundPrograms.{program_in-sound, outermost_is}
use Rattle.da_parse.proofs.CompletePrograms.{program_in-complete}

-- fewer than so many things are open
abbrev pub Below : ℕ → ℕ → Room
Below most d t = d < most

-- whatever is open
abbrev pub Always : ℕ → Room
Always d t = Unit {0}

-- the rule of a reader that opens up to so many things, and of one that opens whatever there is
abbrev pub below : ℕ → Limit
below most d left = nat_lt d most

abbrev pub always : Limit
always d left = true

below_true : (most d : ℕ) → d < most → nat_lt d most ≡ true
below_true most d h = grind (arith, nat_tests, h)

true_below : (most d : ℕ) → nat_lt d most ≡ true → d < most
true_below most d h = grind (arith, nat_tests, h)

read_once : {x y : Tree} {o : Reading Tree} → o ≡ Ok (x, []) → o ≡ Ok (y, []) → x ≡ y
read_once {x = x} a b = ap (read_or x) (sym a ∙ b)

answer_ok : (tokens : List Tok) (o : Reading Tree) (x : Tree) → answer tokens o ≡ Ok x → (y : Tree × List Tok) × (o ≡ Ok y) × (y.0 ≡ x)
answer_ok tokens (Ok y) x e = (y, refl, cc)
answer_ok tokens (Err s) x e = cc

-- where parameters may lack their types or may not
module _ (loose : Bool) where
  -- ---- the reader of the code

  -- what it reads is spelled so, with at most 32 things open
  pub outermost-sound : (i : List Tok) (y : Tree × List Tok) → program (outermost loose) i ≡ Ok y → IsProgramBy loose (Below 32) 33 y.0 i × (y.1 ≡ [])
  outermost-sound i y e = program_in-sound at_most_32 (Below 32) (λ d t h. true_below 32 d h) loose 32 33 (omega arith) (omega arith) i y (subst (λ o. program o i ≡ Ok y) (outermost_is loose) e)

  -- the same, where the grammar allows whatever is open
  pub outermost_spells : (i : List Tok) (y : Tree × List Tok) → program (outermost loose) i ≡ Ok y → (f : ℕ) × IsProgramBy loose Always f y.0 i
  outermost_spells i y e = (32, (program_in-sound at_most_32 Always (λ d t h. tt) loose 32 32 (omega arith) (omega arith) i y (subst (λ o. program o i ≡ Ok y) (outermost_is loose) e)).0)

  -- what is spelled with at most 32 things open is read
  pub outermost-complete : (x : Tree) (i : List Tok) → IsProgramBy loose (Below 32) 33 x i → program (outermost loose) i ≡ Ok (x, [])
  outermost-complete x i h =
      subst (λ o. program o i ≡ Ok (x, [])) (sym (outermost_is loose)) (program_in-complete at_most_32 (Below 32) (λ d t some. below_true 32 d some) loose 33 32 (inr (λ t some. omega (arith, some))) x i h)

  -- ---- one tree

  -- the same tokens spell one tree
  pub program_unique : (f g : ℕ) (x y : Tree) (i : List Tok) → IsProgramBy loose Always f x i → IsProgramBy loose Always g y i → x ≡ y
  program_unique f g x y i a b =
      read_once (program_in-complete always Always (λ d t some. refl) loose f (suc (f + g)) (inl (omega arith)) x i a) (program_in-complete always Always (λ d t some. refl) loose g (suc (f + g)) (inl (omega arith)) y i b)

  -- ---- more things open

  -- what is spelled with so many things open is spelled by every rule that allows these, and with every greater bound of how many there are
  pub program_wider : (most : ℕ) (room : ℕ → Room) (f : ℕ) → ((d : ℕ) (t : List Tok) → d < most → room d t) → suc most ≤ f → (x : Tree) (i : List Tok) → IsProgramBy loose (Below most) (suc most) x i → IsProgramBy loose room f x i
  program_wider most room f fits few x i h =
      (program_in-sound (below most) room (λ d t e. fits d t (true_below most d e)) loose (suc most) f (omega arith) few i (x, [])
      (program_in-complete (below most) (Below most) (λ d t some. below_true most d some) loose (suc most) (suc most) (inr (λ t some. omega (arith, some))) x i h)).0

  pub program_more : (n k : ℕ) (x : Tree) (i : List Tok) → IsProgramBy loose (Below n) (suc n) x i → n ≤ k → IsProgramBy loose (Below k) (suc k) x i
  program_more n k x i h few = program_wider n (Below k) (suc k) (λ d t less. omega (arith, less, few)) (omega (arith, few)) x i h

  pub program_spells : (n : ℕ) (x : Tree) (i : List Tok) → IsProgramBy loose (Below n) (suc n) x i → (f : ℕ) × IsProgramBy loose Always f x i
  program_spells n x i h = (suc n, program_wider n Always (suc n) (λ d t less. tt) (omega arith) x i h)

  -- what the reader of the code reads is the one tree that the tokens spell, whatever is open
  pub outermost_only : (f : ℕ) (x : Tree) (i : List Tok) (y : Tree × List Tok) → program (outermost loose) i ≡ Ok y → IsProgramBy loose Always f x i → x ≡ y.0
  outermost_only f x i y e h = let (g, spelled) = outermost_spells i y e in program_unique f g x y.0 i h spelled

  -- where it reads nothing, nothing is spelled with at most 32 things open
  pub outermost_none : (s : Stop) (x : Tree) (i : List Tok) → program (outermost loose) i ≡ Err s → IsProgramBy loose (Below 32) 33 x i → ⊥
  outermost_none s x i e h = let read = outermost-complete x i h in cc

  -- ---- the same with the tokens' own spelling

  pub SpellsBy_unique : (x y : Tree) (i : List Tok) → SpellsBy loose x i → SpellsBy loose y i → x ≡ y
  unfolding SpellsBy
  SpellsBy_unique x y i (all, (f, a)) (every, (g, b)) = program_unique f g x y i a b

  pub SpellsWithinBy_more : (n k : ℕ) (x : Tree) (i : List Tok) → SpellsWithinBy loose n x i → n ≤ k → SpellsWithinBy loose k x i
  unfolding SpellsWithinBy
  SpellsWithinBy_more n k x i (all, h) few = (all, program_more n k x i h few)

  pub SpellsWithinBy_spells : (n : ℕ) (x : Tree) (i : List Tok) → SpellsWithinBy loose n x i → SpellsBy loose x i
  unfolding SpellsWithinBy SpellsBy
  SpellsWithinBy_spells n x i (all, h) = (all, program_spells n x i h)

  -- ---- what parsing answers

  -- the tree that it gives is spelled with at most 32 things open
  pub parsed-sound : (tokens : List Tok) (x : Tree) → parsed_by loose tokens ≡ Ok x → IsProgramBy loose (Below 32) 33 x tokens
  unfolding parsed_by
  parsed-sound tokens x e =
      let (y, read, same) = answer_ok tokens (program (outermost loose) tokens) x e in
      subst (λ z. IsProgramBy loose (Below 32) 33 z tokens) same (outermost-sound tokens y read).0

  -- a tree that is spelled so is given
  pub parsed-complete : (tokens : List Tok) (x : Tree) → IsProgramBy loose (Below 32) 33 x tokens → parsed_by loose tokens ≡ Ok x
  unfolding parsed_by
  parsed-complete tokens x h = ap (answer tokens) (outermost-complete x tokens h)

  -- the tree that it gives is the only one, whatever is open
  pub parsed_only : (tokens : List Tok) (x y : Tree) (f : ℕ) → parsed_by loose tokens ≡ Ok x → IsProgramBy loose Always f y tokens → y ≡ x
  parsed_only tokens x y f e h = let (g, spelled) = program_spells 32 x tokens (parsed-sound tokens x e) in program_unique f g y x tokens h spelled

-- ---- where each parameter has its type

pub typed_spells : (x : Tree) (i : List Tok) → Spells x i → SpellsBy false x i
unfolding Spells SpellsBy
typed_spells x i h = h

pub spells_typed : (x : Tree) (i : List Tok) → SpellsBy false x i → Spells x i
unfolding Spells SpellsBy
spells_typed x i h = h

pub typed_within : (n : ℕ) (x : Tree) (i : List Tok) → SpellsWithin n x i → SpellsWithinBy false n x i
unfolding SpellsWithin SpellsWithinBy
typed_within n x i h = h

pub within_typed : (n : ℕ) (x : Tree) (i : List Tok) → SpellsWithinBy false n x i → SpellsWithin n x i
unfolding SpellsWithin SpellsWithinBy
within_typed n x i h = h

pub Spells_unique : (x y : Tree) (i : List Tok) → Spells x i → Spells y i → x ≡ y
Spells_unique x y i a b = SpellsBy_unique false x y i (typed_spells x i a) (typed_spells y i b)

pub SpellsWithin_spells : (n : ℕ) (x : Tree) (i : List Tok) → SpellsWithin n x i → Spells x i
SpellsWithin_spells n x i h = spells_typed x i (SpellsWithinBy_spells false n x i (typed_within n x i h))
