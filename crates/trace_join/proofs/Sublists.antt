-- Lists that are others with some members left out, and lists with a member in their midst.
use Rattle.std.specs.Prelude.{◌≡◌, ◌⊎◌, ℕ, zero, suc, List, [], ◌∷◌, ◌++◌, remove, slice_get, Option, Some, None, is_some, refl}
use Rattle.std.proofs.Common.{sym, ap, ◌∙◌, subst, inl, inr, append_assoc}
use Rattle.std.proofs.lemmas.Bool.{false≢true}
use Rattle.da_values.specs.Sets.{Has}
use Rattle.da_lang.specs.World.{at_number}
use Rattle.da_system.specs.Channels.{without_numbered}
use Rattle.trace_join.specs.Remains.{IsSublist}

module _ {A : Type 0} where
  -- SUBLISTS

  pub sublist_longer : (xs : List A) (y : A) (ys : List A) → IsSublist xs ys → IsSublist xs (y ∷ ys)
  sublist_longer [] y ys within = tt
  sublist_longer (x ∷ xs) y ys within = inr within

  sublist_tail : (x : A) (xs ys : List A) → IsSublist (x ∷ xs) ys → IsSublist xs ys
  sublist_tail x xs [] within = absurd within
  sublist_tail x xs (y ∷ ys) (inl (same, within)) = sublist_longer xs y ys within
  sublist_tail x xs (y ∷ ys) (inr within) = sublist_longer xs y ys (sublist_tail x xs ys within)

  sublist_end : (front xs ys : List A) → IsSublist (front ++ xs) ys → IsSublist xs ys
  sublist_end [] xs ys within = within
  sublist_end (x ∷ front) xs ys within = sublist_end front xs ys (sublist_tail x (front ++ xs) ys within)

  -- also with a member more in the midst of the longer list
  pub sublist_inside : (xs front : List A) (y : A) (back : List A) → IsSublist xs (front ++ back) → IsSublist xs (front ++ y ∷ back)
  sublist_inside xs [] y back within = sublist_longer xs y back within
  sublist_inside [] (z ∷ front) y back within = tt
  sublist_inside (x ∷ xs) (z ∷ front) y back (inl (same, within)) = inl (same, sublist_inside xs front y back within)
  sublist_inside (x ∷ xs) (z ∷ front) y back (inr within) = inr (sublist_inside (x ∷ xs) front y back within)

  sublist_join : (xs xs' ys ys' : List A) → IsSublist xs ys → IsSublist xs' ys' → IsSublist (xs ++ xs') (ys ++ ys')
  sublist_join [] xs' [] ys' first second = second
  sublist_join [] xs' (y ∷ ys) ys' first second = sublist_longer xs' y (ys ++ ys') (sublist_join [] xs' ys ys' tt second)
  sublist_join (x ∷ xs) xs' [] ys' first second = absurd first
  sublist_join (x ∷ xs) xs' (y ∷ ys) ys' (inl (same, first)) second = inl (same, sublist_join xs xs' ys ys' first second)
  sublist_join (x ∷ xs) xs' (y ∷ ys) ys' (inr first) second = inr (sublist_join (x ∷ xs) xs' ys ys' first second)

  -- a sublist of two lists in a row, by what is of each
  record Split (xs ys ys' : List A) : Type 0 where
    first : List A
    second : List A
    same : xs ≡ first ++ second
    of_first : IsSublist first ys
    of_second : IsSublist second ys'

  sublist_split : (xs ys ys' : List A) → IsSublist xs (ys ++ ys') → Split xs ys ys'
  sublist_split xs [] ys' within = record { first = []; second = xs; same = refl; of_first = tt; of_second = within }
  sublist_split [] (y ∷ ys) ys' within = record { first = []; second = []; same = refl; of_first = tt; of_second = tt }
  sublist_split (x ∷ xs) (y ∷ ys) ys' (inl (same, within)) =
      let rest : Split xs ys ys' = sublist_split xs ys ys' within in
      record {
        first = x ∷ rest.first;
        second = rest.second;
        same = ap (λ (l : List A). x ∷ l) rest.same;
        of_first = inl
            (same, rest.of_first);
        of_second = rest.of_second;
      }
  sublist_split (x ∷ xs) (y ∷ ys) ys' (inr within) =
      let rest : Split (x ∷ xs) ys ys' = sublist_split (x ∷ xs) ys ys' within in
      record { first = rest.first; second = rest.second; same = rest.same; of_first = sublist_longer rest.first y ys rest.of_first; of_second = rest.of_second }

  -- of two ways to cut a list one cuts no later than the other
  two_cuts : (xs ys xs' ys' : List A) → xs ++ ys ≡ xs' ++ ys'
      → ((middle : List A) × (xs' ≡ xs ++ middle) × (ys ≡ middle ++ ys')) ⊎ ((middle : List A) × (xs ≡ xs' ++ middle) × (ys' ≡ middle ++ ys))
  two_cuts [] ys xs' ys' same = inl (xs', refl, same)
  two_cuts (x ∷ xs) ys [] ys' same = inr (x ∷ xs, refl, sym same)
  two_cuts (x ∷ xs) ys (x' ∷ xs') ys' same =
      let first : x ≡ x' = cc in
      let others : xs ++ ys ≡ xs' ++ ys' = cc in
      elim (two_cuts xs ys xs' ys' others) [
        | inl (middle, is, rest) ↦ inl (middle, ap (λ (l : List A). x' ∷ l) is ∙ ap (λ (z : A). z ∷ (xs ++ middle)) (sym first), rest)
        | inr (middle, is, rest) ↦ inr (middle, ap (λ (l : List A). x ∷ l) is ∙ ap (λ (z : A). z ∷ (xs' ++ middle)) first, rest)
      ]

  -- WHAT IS LEFT of a list from which members were taken in order: whatever may come after them is among it

  abbrev pub Leaves : List A → List A → List A → Type 0
  Leaves all taken left = (more : List A) → IsSublist (taken ++ more) all → IsSublist more left

  -- also when others are added at the end
  pub leaves_longer : (all taken left new : List A) → Leaves all taken left → Leaves (all ++ new) taken (left ++ new)
  leaves_longer all taken left new leaves more within =
      let split : Split (taken ++ more) all new = sublist_split (taken ++ more) all new within in
      elim (two_cuts taken more split.first split.second split.same) [
        | inl (middle, is, rest) ↦ subst (λ (l : List A). IsSublist l (left ++ new)) (sym rest)
            (sublist_join middle split.second left new (leaves middle (subst (λ (l : List A). IsSublist l all) is split.of_first)) split.of_second)
        | inr (middle, is, rest) ↦ sublist_join [] more left new tt (sublist_end middle more new (subst (λ (l : List A). IsSublist l new) rest split.of_second))
      ]

  after_first : (x : A) (more front back : List A) → (Has front x → ⊥) → IsSublist (x ∷ more) (front ++ x ∷ back) → IsSublist more back
  after_first x more [] back none (inl (same, within)) = within
  after_first x more [] back none (inr within) = sublist_tail x more back within
  after_first x more (y ∷ front) back none (inl (same, within)) = absurd (none (inl same))
  after_first x more (y ∷ front) back none (inr within) = after_first x more front back (λ has. none (inr has)) within

  -- and when the next one is taken, the first that is like it
  pub leaves_behind : (all taken front back : List A) (x : A) → (Has front x → ⊥) → Leaves all taken (front ++ x ∷ back) → Leaves all (taken ++ x ∷ []) back
  leaves_behind all taken front back x none leaves more within =
      after_first x more front back none (leaves (x ∷ more) (subst (λ (l : List A). IsSublist l all) (append_assoc taken (x ∷ []) more) within))

  pub sublist_of_one : (x : A) (ys : List A) → IsSublist (x ∷ []) ys → Has ys x
  sublist_of_one x [] within = absurd within
  sublist_of_one x (y ∷ ys) (inl (same, within)) = inl same
  sublist_of_one x (y ∷ ys) (inr within) = inr (sublist_of_one x ys within)

  -- A MEMBER IN THE MIDST

  pub has_round : (front : List A) (y : A) (back : List A) (x : A) → Has (front ++ back) x → Has (front ++ y ∷ back) x
  has_round [] y back x has = inr has
  has_round (z ∷ front) y back x (inl same) = inl same
  has_round (z ∷ front) y back x (inr has) = inr (has_round front y back x has)

  pub has_middle : (front : List A) (y : A) (back : List A) → Has (front ++ y ∷ back) y
  has_middle [] y back = inl refl
  has_middle (z ∷ front) y back = inr (has_middle front y back)

  pub middle_or_round : (front : List A) (y : A) (back : List A) (x : A) → Has (front ++ y ∷ back) x → (x ≡ y) ⊎ Has (front ++ back) x
  middle_or_round [] y back x (inl same) = inl same
  middle_or_round [] y back x (inr has) = inr has
  middle_or_round (z ∷ front) y back x (inl same) = inr (inl same)
  middle_or_round (z ∷ front) y back x (inr has) = elim (middle_or_round front y back x has) [ inl same ↦ inl same | inr round ↦ inr (inr round) ]

  pub none_there : {x : A} {B : Type 0} → ◌≡◌ {A = Option A} None (Some x) → B
  none_there there = absurd (false≢true (ap is_some there))

  -- a list by the member that a number finds in it, and without this member
  pub record CutAt (xs : List A) (x : A) (without : List A) : Type 0 where
    pub front : List A
    pub back : List A
    pub whole : xs ≡ front ++ x ∷ back
    pub rest : without ≡ front ++ back

  cut_at : (xs : List A) (k : ℕ) (x : A) → slice_get xs k ≡ Some x → CutAt xs x (remove xs k)
  cut_at [] k x there = none_there there
  cut_at (y ∷ ys) zero x there = record { front = []; back = ys; whole = ap (λ (z : A). z ∷ ys) (let same : y ≡ x = cc in same); rest = refl }
  cut_at (y ∷ ys) (suc k) x there =
      let cut : CutAt ys x (remove ys k) = cut_at ys k x there in
      record { front = y ∷ cut.front; back = cut.back; whole = ap (λ (l : List A). y ∷ l) cut.whole; rest = ap (λ (l : List A). y ∷ l) cut.rest }

  pub cut_numbered : (xs : List A) (i : ℕ) (x : A) → at_number xs i ≡ Some x → CutAt xs x (without_numbered xs i)
  cut_numbered xs zero x there = none_there there
  cut_numbered xs (suc k) x there = cut_at xs k x there

  pub cut_first : (xs : List A) (x : A) → at_number xs 1 ≡ Some x → (xs ≡ x ∷ without_numbered xs 1)
  cut_first [] x there = none_there there
  cut_first (y ∷ ys) x there = ap (λ (z : A). z ∷ ys) (let same : y ≡ x = cc in same)

  -- each member has a number
  pub number_of : (xs : List A) (x : A) → Has xs x → (i : ℕ) × (at_number xs i ≡ Some x)
  number_of [] x has = absurd has
  number_of (y ∷ ys) x (inl same) = (1, ap (λ (z : A). Some z) (sym same))
  number_of (y ∷ ys) x (inr has) = of (number_of ys x has)
    where
      of : (i : ℕ) × (at_number ys i ≡ Some x) → (i : ℕ) × (at_number (y ∷ ys) i ≡ Some x)
      of (zero, there) = none_there there
      of (suc k, there) = (suc (suc k), there)

  -- the number finds it in a longer list too
  get_longer : (xs : List A) (k : ℕ) (x : A) (ys : List A) → slice_get xs k ≡ Some x → slice_get (xs ++ ys) k ≡ Some x
  get_longer [] k x ys there = none_there there
  get_longer (y ∷ xs) zero x ys there = there
  get_longer (y ∷ xs) (suc k) x ys there = get_longer xs k x ys there

  pub numbered_longer : (xs : List A) (i : ℕ) (x : A) (ys : List A) → at_number xs i ≡ Some x → at_number (xs ++ ys) i ≡ Some x
  numbered_longer xs zero x ys there = none_there there
  numbered_longer xs (suc k) x ys there = get_longer xs k x ys there

  remove_longer : (xs : List A) (k : ℕ) (x : A) (ys : List A) → slice_get xs k ≡ Some x → remove (xs ++ ys) k ≡ remove xs k ++ ys
  remove_longer [] k x ys there = none_there there
  remove_longer (y ∷ xs) zero x ys there = refl
  remove_longer (y ∷ xs) (suc k) x ys there = ap (λ (l : List A). y ∷ l) (remove_longer xs k x ys there)

  pub without_longer : (xs : List A) (i : ℕ) (x : A) (ys : List A) → at_number xs i ≡ Some x → without_numbered (xs ++ ys) i ≡ without_numbered xs i ++ ys
  without_longer xs zero x ys there = none_there there
  without_longer xs (suc k) x ys there = remove_longer xs k x ys there
