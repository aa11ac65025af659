-- The map of names and the entries say the same, as names come into scope and leave it.
use Rattle.std.specs.Prelude.{◌≡◌, refl, ℕ, ◌+◌, ◌-◌, ◌≤◌, zero, suc, Bool, true, false, if◌then◌else◌, List, [], ◌∷◌, ◌++◌, map, reverse, length, drop, Option, Some, option_map, IsSome, bytes_eq}
use Rattle.std.specs.BTreeMap.{BTreeMap}
use Rattle.std.specs.Borrow.{Bor}
use Rattle.std.proofs.Common.{◌∙◌, sym, ap, subst, arith, length-append}
use Rattle.std.proofs.lemmas.List.{reverse-append}
use Rattle.std.proofs.lemmas.Slice.Eq.{bytes_eq-Decides}
use Rattle.da_lang.specs.Scopes.{look}
use Rattle.da_bodies.specs.ScopeView.{role_in, role_of, inner_first, scope_of, Undoes, IsIndexed}
use Rattle.da_bodies.specs.declared.scope.Entry.{Entry}
use Rattle.da_bodies.specs.declared.scope.Role.{Role}

pub bytes_eq-same : (name : List ℕ) → bytes_eq name name ≡ true
bytes_eq-same name = (bytes_eq-Decides name name).1 refl

look_step : (e : Entry) (q : List ℕ) (es : List Entry) (b : Bool) → bytes_eq e.name.now q ≡ b → look (map (λ x. (x.name.now, role_of x.role)) es) q ≡ option_map role_of (look (inner_first es) q) → look (map (λ x. (x.name.now, role_of x.role)) (e ∷ es)) q ≡ option_map role_of (look (inner_first (e ∷ es)) q)
look_step e q es true is h = rw is refl
look_step e q es false is h = rw is h

look-roles : (es : List Entry) (q : List ℕ) → look (map (λ x. (x.name.now, role_of x.role)) es) q ≡ option_map role_of (look (inner_first es) q)
look-roles [] q = refl
look-roles (e ∷ es) q = look_step e q es (bytes_eq e.name.now q) refl (look-roles es q)

-- what the map says of a name is what the scope says
pub looked : (roles : BTreeMap (Bor (List ℕ)) Role) (entries : List Entry) → IsIndexed roles entries → (found : Option Role) (q : List ℕ) → found ≡ role_in roles q → option_map role_of found ≡ look (scope_of entries) q
looked roles entries indexed found q is = ap (option_map role_of) (is ∙ indexed.same q) ∙ sym (look-roles (reverse entries) q)

-- a name comes into scope
pub entries_grown : (entries : List Entry) (e : Entry) → reverse (entries ++ e ∷ []) ≡ e ∷ reverse entries
entries_grown entries e = reverse-append entries (e ∷ [])

pub indexed_grown : (roles grown : BTreeMap (Bor (List ℕ)) Role) (entries : List Entry) (e : Entry) → IsIndexed roles entries → e.before ≡ role_in roles e.name.now → ((q : List ℕ) → role_in grown q ≡ (if bytes_eq e.name.now q then Some e.role else role_in roles q)) → IsIndexed grown (entries ++ e ∷ [])
indexed_grown roles grown entries e indexed before set =
    let last = sym (entries_grown entries e) in
    record {
      same = λ q. set q ∙ ap (λ found. if bytes_eq e.name.now q then Some e.role else found) (indexed.same q) ∙ ap (λ es. look (inner_first es) q) last;
      undoes = subst Undoes last (before ∙ indexed.same e.name.now, indexed.undoes);
    }

-- the innermost name leaves it
split_by : (e : Entry) (outer : List Entry) (q : List ℕ) (now before : Option Role) (b : Bool) → bytes_eq e.name.now q ≡ b → e.before ≡ look (inner_first outer) e.name.now → before ≡ look (inner_first (e ∷ outer)) q → now ≡ (if b then e.before else before) → now ≡ look (inner_first outer) q
split_by e outer q now before true is undone had set = set ∙ undone ∙ ap (look (inner_first outer)) ((bytes_eq-Decides e.name.now q).0 is)
split_by e outer q now before false is undone had set = set ∙ had ∙ ap (λ b. if b then Some e.role else look (inner_first outer) q) is

pub indexed_shrunk : (roles shrunk : BTreeMap (Bor (List ℕ)) Role) (entries : List Entry) (e : Entry) → IsIndexed roles (entries ++ e ∷ []) → ((q : List ℕ) → role_in shrunk q ≡ (if bytes_eq e.name.now q then e.before else role_in roles q)) → IsIndexed shrunk entries
indexed_shrunk roles shrunk entries e indexed reset =
    let undone = subst Undoes (entries_grown entries e) indexed.undoes in
    record {
      same = λ q. split_by e (reverse entries) q (role_in shrunk q) (role_in roles q) (bytes_eq e.name.now q) refl undone.0 (indexed.same q ∙ ap (λ es. look (inner_first es) q) (entries_grown entries e)) (reset q);
      undoes = undone.1;
    }

pub last_present : (roles : BTreeMap (Bor (List ℕ)) Role) (entries : List Entry) (e : Entry) → IsIndexed roles (entries ++ e ∷ []) → IsSome (role_in roles e.name.now)
last_present roles entries e indexed =
    let found : role_in roles e.name.now ≡ Some e.role = indexed.same e.name.now ∙ ap (λ es. look (inner_first es) e.name.now) (entries_grown entries e) ∙ ap (λ b. if b then Some e.role else look (inner_first (reverse entries)) e.name.now) (bytes_eq-same e.name.now) in
    rw found refl

drop_one : {A : Type 0} (x : A) (xs : List A) (k : ℕ) (s : List A) → x ∷ xs ≡ drop k s → xs ≡ drop (suc k) s
drop_one x xs zero [] e = absurd (cc)
drop_one x xs zero (y ∷ ys) e = cc
drop_one x xs (suc k) [] e = absurd (cc)
drop_one x xs (suc k) (y ∷ ys) e = drop_one x xs k ys e

pub left_on : (all entries less : List Entry) (e : Entry) → entries ≡ less ++ e ∷ [] → length entries ≤ length all → scope_of entries ≡ drop (length all - length entries) (scope_of all) → scope_of less ≡ drop (length all - length less) (scope_of all)
left_on all entries less e is fewer left =
    let count : length entries ≡ length less + 1 = ap length is ∙ length-append less (e ∷ []) in
    let top : (e.name.now, role_of e.role) ∷ scope_of less ≡ drop (length all - length entries) (scope_of all) = sym (ap scope_of is ∙ ap (map (λ (x : Entry). (x.name.now, role_of x.role))) (entries_grown less e)) ∙ left in
    let one_more : suc (length all - length entries) ≡ length all - length less = omega arith in
    drop_one _ _ (length all - length entries) (scope_of all) top ∙ ap (λ n. drop n (scope_of all)) one_more
