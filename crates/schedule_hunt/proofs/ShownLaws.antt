-- What the actions of a run show, action by action.
use Rattle.std.proofs.Common.{◌≡◌, refl, sym, ◌∙◌, ap, subst, ℕ, suc, zero, ◌+◌, ◌<◌, ◌≤◌, Bool, true, false, ◌||◌, not, List, [], ◌∷◌, ◌-◌, take, drop, length, get_or, take_all, arith, inl, inr}
use Rattle.std.specs.Bool.{Decides}
use Rattle.std.specs.Cmp.{unsigned_Decides}
use Rattle.std.specs.Prelude.{◌↔◌, ◌⊎◌, ◌==◌, count_by, IsTrue}
use Rattle.std.proofs.lemmas.Bool.{false≢true}
use Rattle.std.proofs.lemmas.List.Sums.{sum_by-cons}
use Rattle.da_values.specs.declared.val.Val.{Val, out-Val}
use Rattle.da_values.specs.declared.val.Val.TheOpen.{Tuple}
use Rattle.da_values.specs.declared.value.Value.{Value}
use Rattle.da_values.specs.Keys.{same_value, same_value-is}
use Rattle.da_values.specs.Layer.{layer, out-val_of}
use Rattle.da_values.specs.Value.{val_of, vals}
use Rattle.da_lang.specs.declared.event.Action.{Action}
use Rattle.da_lang.specs.declared.event.Action.TheVariants.{Out}
use Rattle.da_system.specs.StressRun.{is_out}
use Rattle.schedule_hunt.specs.Shown.{AnyOf, BeginsWith, CountsAs, EntersBeside, HasEnded, IsMet, OutputsDiffer, Overlaps, PutsOut, Says}
use Rattle.schedule_hunt.specs.ShownSteps.{EntersAndIsMet, IsOtherOutput, IsOutput}

-- THE FIRST ACTION AND THE OTHERS

abbrev pub others_of : List Action → List Action
others_of rest = take (length rest - 1) (drop 1 rest)

pub first_of : (rest : List Action) (a d : Action) → 1 ≤ length rest → a ≡ get_or rest 0 d → rest ≡ a ∷ others_of rest
first_of [] a d some is = absurd (omega (arith, some))
first_of (x ∷ xs) a d some is = ap (λ y. y ∷ xs) (sym is) ∙ ap (λ ys. a ∷ ys) (sym (take_all (length (x ∷ xs) - 1) xs (omega arith)))

-- a loop goes on from the whole
pub all_left : {P : Type 0} → P ↔ P
all_left = (λ x. x, λ x. x)

pub is_no : {P : Type 0} → (IsTrue false ↔ P) → P → ⊥
is_no told is = false≢true (told.1 is)

pub is_yes : {P : Type 0} → P → IsTrue true ↔ P
is_yes is = (λ _. is, λ _. refl)

pub is_never : {P : Type 0} → (P → ⊥) → IsTrue false ↔ P
is_never never = (λ no. absurd (false≢true no), λ is. absurd (never is))

-- ONE OF SOME ACTIONS

pub any_found : (P : Action → Type 0) (a : Action) (others rest whole : List Action) → rest ≡ a ∷ others → (AnyOf P rest ↔ AnyOf P whole) → P a → AnyOf P whole
any_found P a others rest whole cut same is = same.0 (subst (AnyOf P) (sym cut) (AnyOf.here a others is))

not_here : (P : Action → Type 0) (a : Action) (rest : List Action) → (P a → ⊥) → AnyOf P (a ∷ rest) → AnyOf P rest
not_here P a rest none (AnyOf.here _ _ is) = absurd (none is)
not_here P a rest none (AnyOf.later _ _ some) = some

pub any_on : (P : Action → Type 0) (a : Action) (others rest whole : List Action) → rest ≡ a ∷ others → (AnyOf P rest ↔ AnyOf P whole) → (P a → ⊥) → AnyOf P others ↔ AnyOf P whole
any_on P a others rest whole cut same none = (
  λ some. same.0 (subst (AnyOf P) (sym cut) (AnyOf.later a others some)),
  λ some. not_here P a others none (subst (AnyOf P) cut (same.1 some)),
)

pub left_in : (P : Action → Type 0) (a : Action) (others rest : List Action) → rest ≡ a ∷ others → AnyOf P others → AnyOf P rest
left_in P a others rest cut some = subst (AnyOf P) (sym cut) (AnyOf.later a others some)

pub puts_here : (v : Value) (p : ℕ) (a : Action) (others rest : List Action) → rest ≡ a ∷ others → a ≡ Out p v → AnyOf (PutsOut v) rest
puts_here v p a others rest cut is = subst (AnyOf (PutsOut v)) (sym cut) (AnyOf.here a others (p, is))

in_none : (P : Action → Type 0) → AnyOf P [] → ⊥
in_none P some = elim some [ ]

pub any_never : (P : Action → Type 0) (rest whole : List Action) → length rest < 1 → (AnyOf P rest ↔ AnyOf P whole) → AnyOf P whole → ⊥
any_never P [] whole none same some = in_none P (same.1 some)
any_never P (x ∷ xs) whole none same some = absurd (omega (arith, none))

-- OUTPUTS THAT DIFFER

module _ (value : Value) where
  other_of : (actions : List Action) → AnyOf (IsOtherOutput value) actions → (v : Value) × AnyOf (PutsOut v) actions × (val_of v ≡ val_of value → ⊥)
  other_of _ (AnyOf.here a rest (v, puts, unequal)) = (v, AnyOf.here a rest puts, unequal)
  other_of _ (AnyOf.later a rest some) = let (v, puts, unequal) = other_of rest some in (v, AnyOf.later a rest puts, unequal)

  one_other : (v : Value) (actions : List Action) → AnyOf (PutsOut v) actions → (val_of v ≡ val_of value → ⊥) → AnyOf (IsOtherOutput value) actions
  one_other v _ (AnyOf.here a rest puts) unequal = AnyOf.here a rest (v, puts, unequal)
  one_other v _ (AnyOf.later a rest some) unequal = AnyOf.later a rest (one_other v rest some unequal)

  -- one of two outputs that differ is not equal to this value
  unlike : (actions : List Action) (differ : OutputsDiffer actions) (b : Bool) → same_value (val_of differ.one) (val_of value) ≡ b → AnyOf (IsOtherOutput value) actions
  unlike actions differ true is =
      let same = (same_value-is (val_of differ.one) (val_of value)).0 is in
      one_other differ.other actions differ.second (λ equal. differ.unequal (same ∙ sym equal))
  unlike actions differ false is =
      one_other differ.one actions differ.first (λ equal. false≢true (sym is ∙ (same_value-is (val_of differ.one) (val_of value)).1 equal))

  -- where there is an output, two differ exactly where one differs from it
  pub differ_from : (actions : List Action) (r : Bool) → AnyOf (PutsOut value) actions → (IsTrue r ↔ AnyOf (IsOtherOutput value) actions) → IsTrue r ↔ OutputsDiffer actions
  differ_from actions r first told = (to, λ differ. told.1 (unlike actions differ _ refl))
    where
      to : IsTrue r → OutputsDiffer actions
      to is = let (v, puts, unequal) = other_of actions (told.0 is) in record { one = v; other = value; first = puts; second = first; unequal = unequal }

some_output : (v : Value) (actions : List Action) → AnyOf (PutsOut v) actions → AnyOf IsOutput actions
some_output v _ (AnyOf.here a rest puts) = AnyOf.here a rest (v, puts)
some_output v _ (AnyOf.later a rest some) = AnyOf.later a rest (some_output v rest some)

pub none_differ : (actions : List Action) → (AnyOf IsOutput actions → ⊥) → OutputsDiffer actions → ⊥
none_differ actions none differ = none (some_output differ.one actions differ.first)

-- WORDS

pub says_one : (word other : Val) (p q : ℕ) (a : Action) → Says word p a → Says other q a → p ≡ q
says_one word other p q a (v, is, counts) (w, also, _) = let same : Out p v ≡ Out q w = sym is ∙ also in cc

pub counts_alike : (word : Val) (value : Value) (same begins : Bool) → Decides same (val_of value ≡ word) → (IsTrue begins ↔ BeginsWith word (layer value)) → IsTrue (same || begins) ↔ CountsAs word (val_of value)
counts_alike word value true begins is told = (λ _. inl (is.0 refl), λ _. refl)
counts_alike word value false begins is told = (
  λ true_is. inr (subst (BeginsWith word) (sym (out-val_of value)) (told.0 true_is)),
  λ counts. of counts,
)
  where
    of : CountsAs word (val_of value) → IsTrue begins
    of (inl same) = absurd (false≢true (is.1 same))
    of (inr first) = told.1 (subst (BeginsWith word) (out-val_of value) first)

-- ENTRIES

module _ (enter leave : Val) (q : ℕ) (a : Action) (others rest whole : List Action) (cut : rest ≡ a ∷ others) (same : IsMet enter leave q rest ↔ IsMet enter leave q whole) where
  pub met_here : EntersBeside enter q a → IsMet enter leave q whole
  met_here beside = same.0 (subst (IsMet enter leave q) (sym cut) (IsMet.meets a others beside))

  met_later : (EntersBeside enter q a → ⊥) → IsMet enter leave q (a ∷ others) → (Says leave q a → ⊥) × IsMet enter leave q others
  met_later none (IsMet.meets _ _ beside) = absurd (none beside)
  met_later none (IsMet.stays _ _ stays met) = (stays, met)

  met_left : (EntersBeside enter q a → ⊥) → IsMet enter leave q whole → (Says leave q a → ⊥) × IsMet enter leave q others
  met_left none met = met_later none (subst (IsMet enter leave q) cut (same.1 met))

  pub met_on : (EntersBeside enter q a → ⊥) → (Says leave q a → ⊥) → IsMet enter leave q others ↔ IsMet enter leave q whole
  met_on none stays = (λ met. same.0 (subst (IsMet enter leave q) (sym cut) (IsMet.stays a others stays met)), λ met. (met_left none met).1)

  pub met_ends : (EntersBeside enter q a → ⊥) → Says leave q a → IsMet enter leave q whole → ⊥
  met_ends none leaves met = (met_left none met).0 leaves

met_by_none : (enter leave : Val) (q : ℕ) → IsMet enter leave q [] → ⊥
met_by_none enter leave q met = elim met [ ]

pub met_never : (enter leave : Val) (q : ℕ) (rest whole : List Action) → length rest < 1 → (IsMet enter leave q rest ↔ IsMet enter leave q whole) → IsMet enter leave q whole → ⊥
met_never enter leave q [] whole none same met = met_by_none enter leave q (same.1 met)
met_never enter leave q (x ∷ xs) whole none same met = absurd (omega (arith, none))

-- OVERLAPS

module _ (enter leave : Val) (a : Action) (others rest whole : List Action) (cut : rest ≡ a ∷ others) (same : Overlaps enter leave rest ↔ Overlaps enter leave whole) where
  pub overlap_here : EntersAndIsMet enter leave a others → Overlaps enter leave whole
  overlap_here (q, says, met) = same.0 (subst (Overlaps enter leave) (sym cut) (Overlaps.enters a others q says met))

  overlap_later : (EntersAndIsMet enter leave a others → ⊥) → Overlaps enter leave (a ∷ others) → Overlaps enter leave others
  overlap_later none (Overlaps.enters _ _ q says met) = absurd (none (q, says, met))
  overlap_later none (Overlaps.later _ _ over) = over

  pub overlap_on : (EntersAndIsMet enter leave a others → ⊥) → Overlaps enter leave others ↔ Overlaps enter leave whole
  overlap_on none = (λ over. same.0 (subst (Overlaps enter leave) (sym cut) (Overlaps.later a others over)), λ over. overlap_later none (subst (Overlaps enter leave) cut (same.1 over)))

overlap_of_none : (enter leave : Val) → Overlaps enter leave [] → ⊥
overlap_of_none enter leave over = elim over [ ]

pub overlap_never : (enter leave : Val) (rest whole : List Action) → length rest < 1 → (Overlaps enter leave rest ↔ Overlaps enter leave whole) → Overlaps enter leave whole → ⊥
overlap_never enter leave [] whole none same over = overlap_of_none enter leave (same.1 over)
overlap_never enter leave (x ∷ xs) whole none same over = absurd (omega (arith, none))

-- where process p says it, it is this one that is asked for
module _ (word : Val) (p : ℕ) (a : Action) (says : Says word p a) where
  pub met_by_it : (leave : Val) (others : List Action) (r : Bool) → (IsTrue r ↔ IsMet word leave p others) → IsTrue r ↔ EntersAndIsMet word leave a others
  met_by_it leave others r told = (
    λ is. (p, says, told.0 is),
    λ found. told.1 (subst (λ q. IsMet word leave q others) (says_one word word found.0 p a found.1 says) found.2),
  )

  pub beside_it : (q : ℕ) (r : Bool) → (IsTrue r ↔ (p ≡ q → ⊥)) → IsTrue r ↔ EntersBeside word q a
  beside_it q r told = (
    λ is. (p, says, told.0 is),
    λ found. told.1 (λ same. found.2 (says_one word word found.0 p a found.1 says ∙ same)),
  )

  pub it_is : (q : ℕ) (r : Bool) → (IsTrue r ↔ (p ≡ q)) → IsTrue r ↔ Says word q a
  it_is q r told = (λ is. subst (λ q. Says word q a) (told.0 is) says, λ other. told.1 (says_one word word p q a says other))

-- NUMBERS AND VALUES THAT ARE THE SAME

pub same_number : (p q : ℕ) → IsTrue (p == q) ↔ (p ≡ q)
same_number p q = let told = unsigned_Decides p q in (told.0, told.1)

pub not_told : (P : Type 0) (b : Bool) → Decides b P → IsTrue (not b) ↔ (P → ⊥)
not_told P true told = (λ no. absurd (false≢true no), λ never. absurd (never (told.0 refl)))
not_told P false told = (λ _ is. false≢true (told.1 is), λ _. refl)

pub other_number : (p q : ℕ) → IsTrue (not (p == q)) ↔ (p ≡ q → ⊥)
other_number p q = not_told (p ≡ q) (p == q) (unsigned_Decides p q)

-- an output is of another value exactly where its own value is another
pub other_output : (value v : Value) (p : ℕ) (a : Action) (b : Bool) → a ≡ Out p v → Decides b (val_of v ≡ val_of value) → IsTrue (not b) ↔ IsOtherOutput value a
other_output value v p a b is told = (
  λ yes_other. (v, (p, is), (not_told _ b told).0 yes_other),
  λ found. (not_told _ b told).1 (λ equal. found.2 (ap val_of (same_value_put found.0 found.1) ∙ equal)),
)
  where
    same_value_put : (w : Value) → PutsOut w a → w ≡ v
    same_value_put w (q, also) = let same : Out q w ≡ Out p v = sym also ∙ is in cc

pub other_by_ne : (value v : Value) (p : ℕ) (a : Action) (r : Bool) → a ≡ Out p v → r ≡ not (same_value (val_of v) (val_of value)) → IsTrue r ↔ IsOtherOutput value a
other_by_ne value v p a r is made = subst (λ r. IsTrue r ↔ IsOtherOutput value a) (sym made) (other_output value v p a _ is (same_value-is (val_of v) (val_of value)))

-- a value counts as a word where it is the word, and else where it begins with it
pub counts_same : (word value : Value) (r : Bool) → r ≡ same_value (val_of value) (val_of word) → r ≡ true → IsTrue r ↔ CountsAs (val_of word) (val_of value)
counts_same word value r made is = (λ _. inl ((same_value-is (val_of value) (val_of word)).0 (sym made ∙ is)), λ _. is)

pub counts_begun : (word value : Value) (same r : Bool) → same ≡ same_value (val_of value) (val_of word) → same ≡ false → (IsTrue r ↔ BeginsWith (val_of word) (layer value)) → IsTrue r ↔ CountsAs (val_of word) (val_of value)
counts_begun word value same r made is told = counts_alike (val_of word) value false r (subst (λ b. Decides b (val_of value ≡ val_of word)) (sym made ∙ is) (same_value-is (val_of value) (val_of word))) told

pub first_value : (values : List Value) (first d : Value) → 1 ≤ length values → first ≡ get_or values 0 d → (others : List Value) × (values ≡ first ∷ others)
first_value [] first d some is = absurd (omega (arith, some))
first_value (x ∷ xs) first d some is = (xs, ap (λ y. y ∷ xs) (sym is))

pub first_is : (word first : Value) (values : List Value) → (others : List Value) × (values ≡ first ∷ others) → (r : Bool) → r ≡ same_value (val_of first) (val_of word)
    → IsTrue r ↔ BeginsWith (val_of word) (Tuple (vals values))
first_is word first values (others, cut) r made =
    subst (λ vs. IsTrue r ↔ BeginsWith (val_of word) (Tuple (vals vs))) (sym cut)
    (let told = same_value-is (val_of first) (val_of word) in (λ is. told.0 (sym made ∙ is), λ is. made ∙ told.1 is))
