-- Patterns that are spelled alike are one.
use Rattle.std.specs.Prelude.{◌≡◌, ℕ, pos, List, [], ◌∷◌, map, refl}
use Rattle.std.specs.List.{AllByRecursion}
use Rattle.std.proofs.Common.{ap, sym, ◌∙◌, arith}
use Rattle.da_values.specs.declared.val.Val.{Val}
use Rattle.da_values.specs.declared.val.Val.TheVariants as val
use Rattle.da_values.specs.declared.value.Value.{Value}
use Rattle.da_values.specs.Value.{val_of}
use Rattle.da_values.specs.Views.{int_of, parts_of}
use Rattle.da_values.proofs.ViewLaws.{int_of-Int, parts_of-Tuple, val_of_injective}
use Rattle.da_lang.specs.declared.query.Pattern.{Pattern, out-Pattern, roll-Pattern, roll-out-Pattern}
use Rattle.da_lang.specs.declared.query.Pattern.TheVariants as pattern
use Rattle.da_lang.specs.declared.query.Pattern.TheOpen as pattern_layer
use Rattle.da_lang.specs.declared.query.Pattern.TheOpen.{Pattern-F}
use Rattle.da_lang.specs.declared.query.Pattern.TheFolds.{fold_out-Pattern, map-Pattern}
use Rattle.da_lang.specs.declared.query.Term.{Term, out-Term, roll-Term, roll-out-Term}
use Rattle.da_lang.specs.declared.query.Term.TheVariants as term
use Rattle.da_lang.specs.declared.query.Term.TheOpen as layer
use Rattle.da_lang.specs.declared.query.Term.TheOpen.{Term-F}
use Rattle.da_lang.specs.declared.query.Term.TheFolds.{fold_out-Term, map-Term}
use Rattle.da_lang.specs.Live.{tagged, term_spelled_step, term_spelled, spelled_step, spelled}
use Rattle.da_lang.proofs.TermInduction.{term_induction, pattern_induction}

-- the tag and what follows it
pub same_tag : (m n : ℕ) (xs ys : List Val) → tagged m xs ≡ tagged n ys → m ≡ n
same_tag m n xs ys e =
    let heads : ◌≡◌ {A = List Val} (val.Int (pos m) ∷ xs) (val.Int (pos n) ∷ ys) = sym (parts_of-Tuple (val.Int (pos m) ∷ xs)) ∙ ap parts_of e ∙ parts_of-Tuple (val.Int (pos n) ∷ ys) in
    let ints : val.Int (pos m) ≡ val.Int (pos n) = cc in
    let numbers : pos m ≡ pos n = sym (int_of-Int (pos m)) ∙ ap int_of ints ∙ int_of-Int (pos n) in
    cc

pub same_rest : (m n : ℕ) (xs ys : List Val) → tagged m xs ≡ tagged n ys → xs ≡ ys
same_rest m n xs ys e =
    let heads : ◌≡◌ {A = List Val} (val.Int (pos m) ∷ xs) (val.Int (pos n) ∷ ys) = sym (parts_of-Tuple (val.Int (pos m) ∷ xs)) ∙ ap parts_of e ∙ parts_of-Tuple (val.Int (pos n) ∷ ys) in
    cc

pub same_number : (m n : ℕ) → ◌≡◌ {A = List Val} (val.Int (pos m) ∷ []) (val.Int (pos n) ∷ []) → m ≡ n
same_number m n e =
    let ints : val.Int (pos m) ≡ val.Int (pos n) = cc in
    let numbers : pos m ≡ pos n = sym (int_of-Int (pos m)) ∙ ap int_of ints ∙ int_of-Int (pos n) in
    cc

same_value : (v w : Value) → ◌≡◌ {A = List Val} (val_of v ∷ []) (val_of w ∷ []) → v ≡ w
same_value v w e = let values : val_of v ≡ val_of w = cc in val_of_injective v w values

module _ {A : Type 0} (f : A → Val) where
  abbrev pub Tells : A → Type 0
  Tells x = (y : A) → f x ≡ f y → x ≡ y

  same_lists : (xs ys : List A) → AllByRecursion Tells xs → map f xs ≡ map f ys → xs ≡ ys
  same_lists [] [] each e = refl
  same_lists [] (y ∷ ys) each e = absurd (cc)
  same_lists (x ∷ xs) [] each e = absurd (cc)
  same_lists (x ∷ xs) (y ∷ ys) each e =
      let first : f x ≡ f y = cc in
      let others : map f xs ≡ map f ys = cc in
      let same = each.0 y first in
      let rest = same_lists xs ys each.1 others in
      cc

-- Terms, by one layer of the second.

abbrev term_tag : {A : Type 0} → Term-F A → ℕ
term_tag (layer.Const c) = 0
term_tag layer.Me = 1
term_tag (layer.Slot s) = 2
term_tag (layer.Part k) = 3
term_tag (layer.Tuple parts) = 4
term_tag layer.Foreign = 5

abbrev term_rest : Term-F Term → List Val
term_rest (layer.Const c) = val_of c ∷ []
term_rest layer.Me = []
term_rest (layer.Slot s) = val.Int (pos s) ∷ []
term_rest (layer.Part k) = val.Int (pos k) ∷ []
term_rest (layer.Tuple parts) = map term_spelled parts
term_rest layer.Foreign = []

term_layer : (y : Term-F Term) → term_spelled_step (map-Term Term Val term_spelled y) ≡ tagged (term_tag y) (term_rest y)
term_layer (layer.Const c) = refl
term_layer layer.Me = refl
term_layer (layer.Slot s) = refl
term_layer (layer.Part k) = refl
term_layer (layer.Tuple parts) = refl
term_layer layer.Foreign = refl

term_out : (t : Term) → term_spelled t ≡ tagged (term_tag (out-Term t)) (term_rest (out-Term t))
term_out t = fold_out-Term Val term_spelled_step t ∙ term_layer (out-Term t)

abbrev TermParts : Term-F Term → Type 0
TermParts (layer.Tuple parts) = AllByRecursion (Tells term_spelled) parts
TermParts _ = Unit {0}

same_layers : (x y : Term-F Term) → TermParts x → term_tag x ≡ term_tag y → term_rest x ≡ term_rest y → x ≡ y
same_layers (layer.Const c) (layer.Const b) each tags rest = ap layer.Const (same_value c b rest)
same_layers layer.Me layer.Me each tags rest = refl
same_layers (layer.Slot s) (layer.Slot r) each tags rest = ap layer.Slot (same_number s r rest)
same_layers (layer.Part k) (layer.Part j) each tags rest = ap layer.Part (same_number k j rest)
same_layers (layer.Tuple xs) (layer.Tuple ys) each tags rest = ap layer.Tuple (same_lists term_spelled xs ys each rest)
same_layers layer.Foreign layer.Foreign each tags rest = refl
same_layers _ _ each tags rest = absurd (omega (arith, tags))

by_layers : (s : Term) → TermParts (out-Term s) → Tells term_spelled s
by_layers s each t e =
    let both : tagged (term_tag (out-Term s)) (term_rest (out-Term s)) ≡ tagged (term_tag (out-Term t)) (term_rest (out-Term t)) = sym (term_out s) ∙ e ∙ term_out t in
    sym (roll-out-Term s)
    ∙ ap roll-Term (same_layers (out-Term s) (out-Term t) each (same_tag _ _ _ _ both) (same_rest _ _ _ _ both))
    ∙ roll-out-Term t

pub term_tells : (s t : Term) → term_spelled s ≡ term_spelled t → s ≡ t
term_tells =
    term_induction (Tells term_spelled)
    (λ c. by_layers (term.Const c) (rw (term.outs-Const c) tt))
    (by_layers term.Me (rw term.outs-Me tt))
    (λ s. by_layers (term.Slot s) (rw (term.outs-Slot s) tt))
    (λ k. by_layers (term.Part k) (rw (term.outs-Part k) tt))
    (λ parts each. by_layers (term.Tuple parts) (rw (term.outs-Tuple parts) each))
    (by_layers term.Foreign (rw term.outs-Foreign tt))

-- Patterns, in the same way.

abbrev pattern_tag : {A : Type 0} → Pattern-F A → ℕ
pattern_tag pattern_layer.Any = 0
pattern_tag pattern_layer.Bind = 1
pattern_tag (pattern_layer.Const c) = 2
pattern_tag pattern_layer.Me = 3
pattern_tag (pattern_layer.Equal t) = 4
pattern_tag (pattern_layer.Tuple parts) = 5

abbrev pattern_rest : Pattern-F Pattern → List Val
pattern_rest pattern_layer.Any = []
pattern_rest pattern_layer.Bind = []
pattern_rest (pattern_layer.Const c) = val_of c ∷ []
pattern_rest pattern_layer.Me = []
pattern_rest (pattern_layer.Equal t) = term_spelled t ∷ []
pattern_rest (pattern_layer.Tuple parts) = map spelled parts

layer_spelled : (y : Pattern-F Pattern) → spelled_step (map-Pattern Pattern Val spelled y) ≡ tagged (pattern_tag y) (pattern_rest y)
layer_spelled pattern_layer.Any = refl
layer_spelled pattern_layer.Bind = refl
layer_spelled (pattern_layer.Const c) = refl
layer_spelled pattern_layer.Me = refl
layer_spelled (pattern_layer.Equal t) = refl
layer_spelled (pattern_layer.Tuple parts) = refl

pattern_out : (p : Pattern) → spelled p ≡ tagged (pattern_tag (out-Pattern p)) (pattern_rest (out-Pattern p))
pattern_out p = fold_out-Pattern Val spelled_step p ∙ layer_spelled (out-Pattern p)

abbrev PatternParts : Pattern-F Pattern → Type 0
PatternParts (pattern_layer.Tuple parts) = AllByRecursion (Tells spelled) parts
PatternParts _ = Unit {0}

same_term : (s t : Term) → ◌≡◌ {A = List Val} (term_spelled s ∷ []) (term_spelled t ∷ []) → s ≡ t
same_term s t e = let alike : term_spelled s ≡ term_spelled t = cc in term_tells s t alike

same_pattern_layers : (x y : Pattern-F Pattern) → PatternParts x → pattern_tag x ≡ pattern_tag y → pattern_rest x ≡ pattern_rest y → x ≡ y
same_pattern_layers pattern_layer.Any pattern_layer.Any each tags rest = refl
same_pattern_layers pattern_layer.Bind pattern_layer.Bind each tags rest = refl
same_pattern_layers (pattern_layer.Const c) (pattern_layer.Const b) each tags rest = ap pattern_layer.Const (same_value c b rest)
same_pattern_layers pattern_layer.Me pattern_layer.Me each tags rest = refl
same_pattern_layers (pattern_layer.Equal s) (pattern_layer.Equal t) each tags rest = ap pattern_layer.Equal (same_term s t rest)
same_pattern_layers (pattern_layer.Tuple xs) (pattern_layer.Tuple ys) each tags rest = ap pattern_layer.Tuple (same_lists spelled xs ys each rest)
same_pattern_layers _ _ each tags rest = absurd (omega (arith, tags))

by_pattern_layers : (p : Pattern) → PatternParts (out-Pattern p) → Tells spelled p
by_pattern_layers p each q e =
    let both : tagged (pattern_tag (out-Pattern p)) (pattern_rest (out-Pattern p)) ≡ tagged (pattern_tag (out-Pattern q)) (pattern_rest (out-Pattern q)) = sym (pattern_out p) ∙ e ∙ pattern_out q in
    sym (roll-out-Pattern p)
    ∙ ap roll-Pattern (same_pattern_layers (out-Pattern p) (out-Pattern q) each (same_tag _ _ _ _ both) (same_rest _ _ _ _ both))
    ∙ roll-out-Pattern q

pub pattern_tells : (p q : Pattern) → spelled p ≡ spelled q → p ≡ q
pattern_tells =
    pattern_induction (Tells spelled)
    (by_pattern_layers pattern.Any (rw pattern.outs-Any tt))
    (by_pattern_layers pattern.Bind (rw pattern.outs-Bind tt))
    (λ c. by_pattern_layers (pattern.Const c) (rw (pattern.outs-Const c) tt))
    (by_pattern_layers pattern.Me (rw pattern.outs-Me tt))
    (λ t. by_pattern_layers (pattern.Equal t) (rw (pattern.outs-Equal t) tt))
    (λ parts each. by_pattern_layers (pattern.Tuple parts) (rw (pattern.outs-Tuple parts) each))
