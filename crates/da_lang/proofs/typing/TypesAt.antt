-- What is said of types, one layer at a time.
use Rattle.std.specs.Prelude.{ℕ, Bool, List, map}
use Rattle.std.proofs.Common.{◌≡◌, ◌∙◌, ap, sym}
use Rattle.da_values.specs.declared.val.Val.{Val}
use Rattle.da_lang.specs.declared.ty.Ty.{Ty, roll-Ty}
use Rattle.da_lang.specs.declared.ty.Ty.TheVariants as t
use Rattle.da_lang.specs.declared.ty.Ty.TheOpen.{Ty-F}
use Rattle.da_lang.specs.declared.ty.Ty.TheFolds.{map-Ty, fold-roll-Ty}
use Rattle.da_lang.specs.Types.{same_type, same_step, ordered, ordered_step, levels, levels_step, is_of, has_type_step}
use Rattle.da_lang.specs.Written.{type_width, type_width_step}

same_type_layer : (x : Ty-F Ty) → same_type (roll-Ty x) ≡ same_step (map-Ty Ty (Ty → Bool) same_type x)
unfolding same_type
same_type_layer x = fold-roll-Ty (Ty → Bool) same_step x

pub same_type-Int : same_type t.Int ≡ same_step Ty-F.Int
same_type-Int = ap (same_type) (sym t.rolls-Int) ∙ same_type_layer Ty-F.Int

pub same_type_at-Int : (other : Ty) → same_type t.Int other ≡ same_step Ty-F.Int other
same_type_at-Int other = ap (λ (f : Ty → Bool). f other) (same_type-Int)

pub same_type-Bool : same_type t.Bool ≡ same_step Ty-F.Bool
same_type-Bool = ap (same_type) (sym t.rolls-Bool) ∙ same_type_layer Ty-F.Bool

pub same_type_at-Bool : (other : Ty) → same_type t.Bool other ≡ same_step Ty-F.Bool other
same_type_at-Bool other = ap (λ (f : Ty → Bool). f other) (same_type-Bool)

pub same_type-Text : same_type t.Text ≡ same_step Ty-F.Text
same_type-Text = ap (same_type) (sym t.rolls-Text) ∙ same_type_layer Ty-F.Text

pub same_type_at-Text : (other : Ty) → same_type t.Text other ≡ same_step Ty-F.Text other
same_type_at-Text other = ap (λ (f : Ty → Bool). f other) (same_type-Text)

pub same_type-Proc : same_type t.Proc ≡ same_step Ty-F.Proc
same_type-Proc = ap (same_type) (sym t.rolls-Proc) ∙ same_type_layer Ty-F.Proc

pub same_type_at-Proc : (other : Ty) → same_type t.Proc other ≡ same_step Ty-F.Proc other
same_type_at-Proc other = ap (λ (f : Ty → Bool). f other) (same_type-Proc)

pub same_type-Tuple : (parts : List Ty) → same_type (t.Tuple parts) ≡ same_step (Ty-F.Tuple (map same_type parts))
same_type-Tuple parts = ap (same_type) (sym (t.rolls-Tuple parts)) ∙ same_type_layer (Ty-F.Tuple parts)

pub same_type_at-Tuple : (parts : List Ty) (other : Ty) → same_type (t.Tuple parts) other ≡ same_step (Ty-F.Tuple (map same_type parts)) other
same_type_at-Tuple parts other = ap (λ (f : Ty → Bool). f other) (same_type-Tuple parts)

pub same_type-Set : (element : Ty) → same_type (t.Set element) ≡ same_step (Ty-F.Set (same_type element))
same_type-Set element = ap (same_type) (sym (t.rolls-Set element)) ∙ same_type_layer (Ty-F.Set element)

pub same_type_at-Set : (element : Ty) (other : Ty) → same_type (t.Set element) other ≡ same_step (Ty-F.Set (same_type element)) other
same_type_at-Set element other = ap (λ (f : Ty → Bool). f other) (same_type-Set element)

pub ruleset same_types = (same_type-Int, same_type_at-Int, same_type-Bool, same_type_at-Bool, same_type-Text, same_type_at-Text, same_type-Proc, same_type_at-Proc, same_type-Tuple, same_type_at-Tuple, same_type-Set, same_type_at-Set)

ordered_layer : (x : Ty-F Ty) → ordered (roll-Ty x) ≡ ordered_step (map-Ty Ty Bool ordered x)
unfolding ordered
ordered_layer x = fold-roll-Ty Bool ordered_step x

pub ordered-Int : ordered t.Int ≡ ordered_step Ty-F.Int
ordered-Int = ap (ordered) (sym t.rolls-Int) ∙ ordered_layer Ty-F.Int

pub ordered-Bool : ordered t.Bool ≡ ordered_step Ty-F.Bool
ordered-Bool = ap (ordered) (sym t.rolls-Bool) ∙ ordered_layer Ty-F.Bool

pub ordered-Text : ordered t.Text ≡ ordered_step Ty-F.Text
ordered-Text = ap (ordered) (sym t.rolls-Text) ∙ ordered_layer Ty-F.Text

pub ordered-Proc : ordered t.Proc ≡ ordered_step Ty-F.Proc
ordered-Proc = ap (ordered) (sym t.rolls-Proc) ∙ ordered_layer Ty-F.Proc

pub ordered-Tuple : (parts : List Ty) → ordered (t.Tuple parts) ≡ ordered_step (Ty-F.Tuple (map ordered parts))
ordered-Tuple parts = ap (ordered) (sym (t.rolls-Tuple parts)) ∙ ordered_layer (Ty-F.Tuple parts)

pub ordered-Set : (element : Ty) → ordered (t.Set element) ≡ ordered_step (Ty-F.Set (ordered element))
ordered-Set element = ap (ordered) (sym (t.rolls-Set element)) ∙ ordered_layer (Ty-F.Set element)

pub ruleset ordering = (ordered-Int, ordered-Bool, ordered-Text, ordered-Proc, ordered-Tuple, ordered-Set)

levels_layer : (x : Ty-F Ty) → levels (roll-Ty x) ≡ levels_step (map-Ty Ty ℕ levels x)
unfolding levels
levels_layer x = fold-roll-Ty ℕ levels_step x

pub levels-Int : levels t.Int ≡ levels_step Ty-F.Int
levels-Int = ap (levels) (sym t.rolls-Int) ∙ levels_layer Ty-F.Int

pub levels-Bool : levels t.Bool ≡ levels_step Ty-F.Bool
levels-Bool = ap (levels) (sym t.rolls-Bool) ∙ levels_layer Ty-F.Bool

pub levels-Text : levels t.Text ≡ levels_step Ty-F.Text
levels-Text = ap (levels) (sym t.rolls-Text) ∙ levels_layer Ty-F.Text

pub levels-Proc : levels t.Proc ≡ levels_step Ty-F.Proc
levels-Proc = ap (levels) (sym t.rolls-Proc) ∙ levels_layer Ty-F.Proc

pub levels-Tuple : (parts : List Ty) → levels (t.Tuple parts) ≡ levels_step (Ty-F.Tuple (map levels parts))
levels-Tuple parts = ap (levels) (sym (t.rolls-Tuple parts)) ∙ levels_layer (Ty-F.Tuple parts)

pub levels-Set : (element : Ty) → levels (t.Set element) ≡ levels_step (Ty-F.Set (levels element))
levels-Set element = ap (levels) (sym (t.rolls-Set element)) ∙ levels_layer (Ty-F.Set element)

pub ruleset levelling = (levels-Int, levels-Bool, levels-Text, levels-Proc, levels-Tuple, levels-Set)

is_of_layer : (x : Ty-F Ty) → is_of (roll-Ty x) ≡ has_type_step (map-Ty Ty (Val → Bool) is_of x)
unfolding is_of
is_of_layer x = fold-roll-Ty (Val → Bool) has_type_step x

pub is_of-Int : is_of t.Int ≡ has_type_step Ty-F.Int
is_of-Int = ap (is_of) (sym t.rolls-Int) ∙ is_of_layer Ty-F.Int

pub is_of_at-Int : (v : Val) → is_of t.Int v ≡ has_type_step Ty-F.Int v
is_of_at-Int v = ap (λ (f : Val → Bool). f v) (is_of-Int)

pub is_of-Bool : is_of t.Bool ≡ has_type_step Ty-F.Bool
is_of-Bool = ap (is_of) (sym t.rolls-Bool) ∙ is_of_layer Ty-F.Bool

pub is_of_at-Bool : (v : Val) → is_of t.Bool v ≡ has_type_step Ty-F.Bool v
is_of_at-Bool v = ap (λ (f : Val → Bool). f v) (is_of-Bool)

pub is_of-Text : is_of t.Text ≡ has_type_step Ty-F.Text
is_of-Text = ap (is_of) (sym t.rolls-Text) ∙ is_of_layer Ty-F.Text

pub is_of_at-Text : (v : Val) → is_of t.Text v ≡ has_type_step Ty-F.Text v
is_of_at-Text v = ap (λ (f : Val → Bool). f v) (is_of-Text)

pub is_of-Proc : is_of t.Proc ≡ has_type_step Ty-F.Proc
is_of-Proc = ap (is_of) (sym t.rolls-Proc) ∙ is_of_layer Ty-F.Proc

pub is_of_at-Proc : (v : Val) → is_of t.Proc v ≡ has_type_step Ty-F.Proc v
is_of_at-Proc v = ap (λ (f : Val → Bool). f v) (is_of-Proc)

pub is_of-Tuple : (parts : List Ty) → is_of (t.Tuple parts) ≡ has_type_step (Ty-F.Tuple (map is_of parts))
is_of-Tuple parts = ap (is_of) (sym (t.rolls-Tuple parts)) ∙ is_of_layer (Ty-F.Tuple parts)

pub is_of_at-Tuple : (parts : List Ty) (v : Val) → is_of (t.Tuple parts) v ≡ has_type_step (Ty-F.Tuple (map is_of parts)) v
is_of_at-Tuple parts v = ap (λ (f : Val → Bool). f v) (is_of-Tuple parts)

pub is_of-Set : (element : Ty) → is_of (t.Set element) ≡ has_type_step (Ty-F.Set (is_of element))
is_of-Set element = ap (is_of) (sym (t.rolls-Set element)) ∙ is_of_layer (Ty-F.Set element)

pub is_of_at-Set : (element : Ty) (v : Val) → is_of (t.Set element) v ≡ has_type_step (Ty-F.Set (is_of element)) v
is_of_at-Set element v = ap (λ (f : Val → Bool). f v) (is_of-Set element)

pub ruleset belonging = (is_of-Int, is_of_at-Int, is_of-Bool, is_of_at-Bool, is_of-Text, is_of_at-Text, is_of-Proc, is_of_at-Proc, is_of-Tuple, is_of_at-Tuple, is_of-Set, is_of_at-Set)

type_width_layer : (x : Ty-F Ty) → type_width (roll-Ty x) ≡ type_width_step (map-Ty Ty ℕ type_width x)
unfolding type_width
type_width_layer x = fold-roll-Ty ℕ type_width_step x

pub type_width-Int : type_width t.Int ≡ type_width_step Ty-F.Int
type_width-Int = ap (type_width) (sym t.rolls-Int) ∙ type_width_layer Ty-F.Int

pub type_width-Bool : type_width t.Bool ≡ type_width_step Ty-F.Bool
type_width-Bool = ap (type_width) (sym t.rolls-Bool) ∙ type_width_layer Ty-F.Bool

pub type_width-Text : type_width t.Text ≡ type_width_step Ty-F.Text
type_width-Text = ap (type_width) (sym t.rolls-Text) ∙ type_width_layer Ty-F.Text

pub type_width-Proc : type_width t.Proc ≡ type_width_step Ty-F.Proc
type_width-Proc = ap (type_width) (sym t.rolls-Proc) ∙ type_width_layer Ty-F.Proc

pub type_width-Tuple : (parts : List Ty) → type_width (t.Tuple parts) ≡ type_width_step (Ty-F.Tuple (map type_width parts))
type_width-Tuple parts = ap (type_width) (sym (t.rolls-Tuple parts)) ∙ type_width_layer (Ty-F.Tuple parts)

pub type_width-Set : (element : Ty) → type_width (t.Set element) ≡ type_width_step (Ty-F.Set (type_width element))
type_width-Set element = ap (type_width) (sym (t.rolls-Set element)) ∙ type_width_layer (Ty-F.Set element)

pub ruleset widening = (type_width-Int, type_width-Bool, type_width-Text, type_width-Proc, type_width-Tuple, type_width-Set)
