-- A message that may be delivered in an accepted program has tuples of at most 255 parts alone.
use Rattle.std.specs.Prelude.{◌≡◌, refl, ℕ, suc, ◌≤◌, nat_le, Bool, true, false, ◌&&◌, cond, List, [], ◌∷◌, ◌++◌, map, length, max, Option, Some, None, find, flat_map, bytes_eq}
use Rattle.std.specs.List.{AllByRecursion, list_all, list_any}
use Rattle.std.proofs.Common.{◌∙◌, ap, sym, arith}
use Rattle.std.proofs.lemmas.Bool.{false≢true, and_from, and_parts, or_parts, le-leb, ltb-false}
use Rattle.std.proofs.lemmas.List.{length-map}
use Rattle.da_values.specs.declared.val.Val.{Val, out-Val, roll-out-Val}
use Rattle.da_values.specs.declared.val.Val.TheOpen as vo
use Rattle.da_values.specs.declared.val.Val.TheOpen.{Val-F}
use Rattle.da_values.specs.declared.val.Val.TheFolds.{fold-roll-Val, map-Val}
use Rattle.da_values.specs.Narrow.{is_narrow}
use Rattle.da_lang.specs.declared.program.Program.{Program}
use Rattle.da_lang.specs.declared.tree.MessageDecl.{MessageDecl}
use Rattle.da_lang.specs.declared.tree.Tree.{Tree}
use Rattle.da_lang.specs.declared.ty.Ty.{Ty}
use Rattle.da_lang.specs.declared.ty.Ty.TheVariants as t
use Rattle.da_lang.specs.Accepted.{IsAccepted}
use Rattle.da_lang.specs.Limits.{limit_refusals, line_if, most_parts, parts_in_message, wide}
use Rattle.da_lang.specs.QueryTypes.{declared, given, holds_of}
use Rattle.da_lang.specs.Resolution.{resolved}
use Rattle.da_lang.specs.Shaped.{has_processes, is_declared, tag_of, well_typed}
use Rattle.da_lang.specs.Types.{all_of, bool_value, int_value, is_of, proc_value, set_value, text_value, tuple_value}
use Rattle.da_lang.specs.Typing.{filled}
use Rattle.da_lang.specs.Written.{greatest, type_width}
use Rattle.da_lang.proofs.WorldLaws.{ty_induction}
use Rattle.da_lang.proofs.typing.TypesAt.{is_of_at-Int, is_of_at-Bool, is_of_at-Text, is_of_at-Proc, is_of_at-Tuple, is_of_at-Set, type_width-Text, type_width-Tuple, type_width-Set}
use Rattle.msg_codec.specs.Packets.{few_step, has_few_parts}

-- VALUES OF NARROW TYPES

-- what is asked of a layer of a value
abbrev few_layer : Val-F Val → Bool
few_layer x = few_step (map-Val Val Bool has_few_parts x)

few_at : (v : Val) → few_layer (out-Val v) ≡ true → has_few_parts v ≡ true
few_at v few = ap has_few_parts (sym (roll-out-Val v)) ∙ fold-roll-Val Bool few_step (out-Val v) ∙ few

-- a type whose tuples have at most 255 parts has values with few parts
abbrev HasFew : Ty → Type 0
HasFew ty = type_width ty ≤ 255 → (v : Val) → is_of ty v ≡ true → has_few_parts v ≡ true

int_few : (x : Val-F Val) → int_value x ≡ true → few_layer x ≡ true
int_few (vo.Int number) e = refl
int_few _ e = absurd (false≢true e)

bool_few : (x : Val-F Val) → bool_value x ≡ true → few_layer x ≡ true
bool_few (vo.Bool truth) e = refl
bool_few _ e = absurd (false≢true e)

text_few : (x : Val-F Val) → text_value x ≡ true → few_layer x ≡ true
text_few (vo.Text bytes) e = refl
text_few _ e = absurd (false≢true e)

proc_few : (x : Val-F Val) → proc_value x ≡ true → few_layer x ≡ true
proc_few (vo.Proc process) e = refl
proc_few _ e = absurd (false≢true e)

-- part by part
same_length : (types : List Ty) (vs : List Val) → all_of (map is_of types) vs ≡ true → length vs ≡ length types
same_length [] [] e = refl
same_length [] (v ∷ vs) e = absurd (false≢true e)
same_length (ty ∷ types) [] e = absurd (false≢true e)
same_length (ty ∷ types) (v ∷ vs) e = ap suc (same_length types vs (and_parts (is_of ty v) (all_of (map is_of types) vs) e).1)

each_few : (types : List Ty) (vs : List Val) → AllByRecursion HasFew types → greatest (map type_width types) ≤ 255 → all_of (map is_of types) vs ≡ true → list_all (λ part. part) (map has_few_parts vs) ≡ true
each_few [] [] each narrow e = refl
each_few [] (v ∷ vs) each narrow e = absurd (false≢true e)
each_few (ty ∷ types) [] each narrow e = absurd (false≢true e)
each_few (ty ∷ types) (v ∷ vs) each narrow e =
    let both = and_parts (is_of ty v) (all_of (map is_of types) vs) e in
    let here = each.0 (omega (arith, narrow)) v both.0 in
    let others = each_few types vs each.1 (omega (arith, narrow)) both.1 in
    and_from (has_few_parts v) (list_all (λ part. part) (map has_few_parts vs)) here others

tuple_few : (types : List Ty) → AllByRecursion HasFew types → max (length types) (greatest (map type_width types)) ≤ 255 → (x : Val-F Val) → tuple_value (map is_of types) x ≡ true → few_layer x ≡ true
tuple_few types each narrow (vo.Tuple vs) e =
    let few : length (map has_few_parts vs) ≤ 255 = omega (arith, length-map vs has_few_parts, same_length types vs e, narrow) in
    and_from (nat_le (length (map has_few_parts vs)) 255) (list_all (λ part. part) (map has_few_parts vs)) (le-leb _ _ few) (each_few types vs each (omega (arith, narrow)) e)
tuple_few types each narrow _ e = absurd (false≢true e)

elements_few : (ty : Ty) (vs : List Val) → ((v : Val) → is_of ty v ≡ true → has_few_parts v ≡ true) → list_all (is_of ty) vs ≡ true → list_all (λ element. element) (map has_few_parts vs) ≡ true
elements_few ty [] each e = refl
elements_few ty (v ∷ vs) each e =
    let both = and_parts (is_of ty v) (list_all (is_of ty) vs) e in
    and_from (has_few_parts v) (list_all (λ element. element) (map has_few_parts vs)) (each v both.0) (elements_few ty vs each both.1)

set_few : (ty : Ty) → ((v : Val) → is_of ty v ≡ true → has_few_parts v ≡ true) → (x : Val-F Val) → set_value (is_of ty) x ≡ true → few_layer x ≡ true
set_few ty each (vo.Set vs) e = elements_few ty vs each e
set_few ty each _ e = absurd (false≢true e)

few_of_type : (ty : Ty) → HasFew ty
few_of_type =
    ty_induction HasFew
    (λ narrow v e. few_at v (int_few (out-Val v) (sym (is_of_at-Int v) ∙ e)))
    (λ narrow v e. few_at v (bool_few (out-Val v) (sym (is_of_at-Bool v) ∙ e)))
    (λ narrow v e. few_at v (text_few (out-Val v) (sym (is_of_at-Text v) ∙ e)))
    (λ narrow v e. few_at v (proc_few (out-Val v) (sym (is_of_at-Proc v) ∙ e)))
    (λ types each narrow v e. few_at v (tuple_few types each (omega (arith, narrow, type_width-Tuple types, length-map types type_width)) (out-Val v) (sym (is_of_at-Tuple types v) ∙ e)))
    (λ ty each narrow v e. few_at v (set_few ty (each (omega (arith, narrow, type_width-Set ty))) (out-Val v) (sym (is_of_at-Set ty v) ∙ e)))

-- DECLARED MESSAGES ARE NARROW

no_left : {A : Type 0} (xs ys : List A) → xs ++ ys ≡ [] → xs ≡ []
no_left [] ys e = refl
no_left (x ∷ xs) ys e = absurd (cc)

no_right : {A : Type 0} (xs ys : List A) → xs ++ ys ≡ [] → ys ≡ []
no_right [] ys e = e
no_right (x ∷ xs) ys e = absurd (cc)

map_none : {A B : Type 0} (f : A → B) (xs : List A) → map f xs ≡ [] → xs ≡ []
map_none f [] e = refl
map_none f (x ∷ xs) e = absurd (cc)

no_line : (b : Bool) (line : ℕ) → line_if b line ≡ [] → b ≡ false
no_line true line e = absurd (cc)
no_line false line e = refl

not_wide : (parts : ℕ) → wide parts ≡ false → parts ≤ 255
unfolding most_parts
not_wide parts e = ltb-false 255 parts e

within : (tree : Tree) → limit_refusals tree ≡ [] → flat_map parts_in_message tree.messages ≡ []
unfolding limit_refusals
within tree e = no_left _ _ (no_left _ _ (map_none _ _ (no_right _ _ (no_left _ _ e))))

none_wide : (types : List Ty) → list_any (λ ty. wide (type_width ty)) types ≡ false → greatest (map type_width types) ≤ 255
none_wide [] e = omega arith
none_wide (ty ∷ types) e =
    let both = or_parts (wide (type_width ty)) (list_any (λ ty. wide (type_width ty)) types) e in
    omega (arith, not_wide (type_width ty) both.0, none_wide types both.1)

-- the type of a declared message: a text and the parts
abbrev message_of : MessageDecl → Ty
message_of m = t.Tuple (t.Text ∷ m.parts)

message_narrow : (m : MessageDecl) → parts_in_message m ≡ [] → type_width (message_of m) ≤ 255
message_narrow m e =
    let both = or_parts (wide (suc (length m.parts))) (list_any (λ ty. wide (type_width ty)) m.parts) (no_line _ m.line e) in
    omega (arith, type_width-Tuple (t.Text ∷ m.parts), type_width-Text, length-map m.parts type_width, not_wide (suc (length m.parts)) both.0, none_wide m.parts both.1)

-- the first declaration is the one, or else the one is among the others
abbrev is_of_found : Option MessageDecl → Val → Bool
is_of_found found v = holds_of (given found (λ m. Some (message_of m))) (λ ty. is_of ty v)

one_few : (m : MessageDecl) (others : Option MessageDecl) (v : Val) → parts_in_message m ≡ [] → (is_of_found others v ≡ true → has_few_parts v ≡ true) → (b : Bool) → is_of_found (cond b (Some m) others) v ≡ true → has_few_parts v ≡ true
one_few m others v none go true e = few_of_type (message_of m) (message_narrow m none) v e
one_few m others v none go false e = go e

found_few : (messages : List MessageDecl) (tag : List ℕ) (v : Val) → flat_map parts_in_message messages ≡ [] → holds_of (declared messages tag) (λ ty. is_of ty v) ≡ true → has_few_parts v ≡ true
found_few [] tag v none e = absurd (false≢true e)
found_few (m ∷ messages) tag v none e =
    one_few m (find (λ d. bytes_eq d.tag tag) messages) v (no_left (parts_in_message m) (flat_map parts_in_message messages) none) (found_few messages tag v (no_right (parts_in_message m) (flat_map parts_in_message messages) none)) (bytes_eq m.tag tag) e

declared_few : (messages : List MessageDecl) (tag : Option (List ℕ)) (v : Val) → flat_map parts_in_message messages ≡ [] → holds_of (given tag (declared messages)) (λ ty. is_of ty v) ≡ true → has_few_parts v ≡ true
declared_few messages None v none e = absurd (false≢true e)
declared_few messages (Some tag) v none e = found_few messages tag v none e

-- MESSAGES OF ACCEPTED PROGRAMS

resolved_messages : (tree : Tree) → (resolved tree).messages ≡ tree.messages
unfolding resolved
resolved_messages tree = refl

filled_messages : (p : Program) → (filled p).messages ≡ p.messages
unfolding filled
filled_messages p = refl

narrow_messages : (p : Program) → IsAccepted p → flat_map parts_in_message p.messages ≡ []
narrow_messages p accepted =
    let untyped = accepted.untyped in
    let tree = accepted.resolved.tree in
    let same : p.messages ≡ tree.messages =
    ap (λ (q : Program). q.messages) accepted.typed.becomes
    ∙ filled_messages untyped
    ∙ ap (λ (q : Program). q.messages) accepted.resolved.resolves.becomes
    ∙ resolved_messages tree in
    ap (flat_map parts_in_message) same ∙ within tree accepted.resolved.resolves.within

pub few_parts : (p : Program) → IsAccepted p → (m : Val) → well_typed p m ≡ true → has_few_parts m ≡ true
few_parts p accepted m e =
    let first = and_parts (is_declared p.messages m && is_narrow m) (has_processes (length p.procs) m) e in
    let typed = and_parts (is_declared p.messages m) (is_narrow m) first.0 in
    declared_few p.messages (tag_of (out-Val m)) m (narrow_messages p accepted) typed.0
