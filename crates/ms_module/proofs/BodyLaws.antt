-- Bodies and their keys.
use Rattle.std.proofs.Common.{◌≡◌, ◌≢◌, ℕ, zero, suc, ◌+◌, ◌<◌, ◌⊎◌, inl, inr, Bool, true, false, ◌&&◌, nat_eq, if◌then◌else◌, List, [], ◌∷◌, ◌++◌, map, take, length, get_or, refl, sym, ap, ◌∙◌, subst, arith, length-append, Contains}
use Rattle.std.specs.List.{Any, AllPairs, IsDistinct, list_any}
use Rattle.std.specs.Cmp.Lexicographic.{pointwise}
use Rattle.std.proofs.lemmas.List.Elements.{All-from_recursion, All-map, All-weaker, Contains-append_left, Contains-append_right, Contains-append_cases, Contains-push, Contains-push_cases, Contains-get_or, All-append}
use Rattle.std.proofs.lemmas.List.Kept.{AllPairs-cons}
use Rattle.std.proofs.lemmas.Slice.Eq.{bytes_eq-Decides}
use Rattle.std.proofs.lemmas.Bool.{and_parts, false≢true}
use Rattle.std.proofs.lemmas.List.{take_more, get_or_default, get_or_append_left, map-append, length-map}
use Rattle.std.proofs.Math.ListN.{get_or-map}
use Rattle.std.proofs.lemmas.List.Folds.{Any-from_list_any, list_any-from_Any}
use Rattle.indexmap.specs.IndexSet.{insert_key}
use Rattle.ms_join.specs.declared.ground_rule.GroundRule.{GroundRule}
use Rattle.ms_join.specs.Things.{Body, body_of}
use Rattle.ms_module.specs.declared.bodies.BodyKey.{BodyKey}
use Rattle.ms_module.specs.contracts.bodies.BodyKeyPartialEq.TheImpl.{eq-value}
use Rattle.ms_module.specs.Bodies.{shown, IsBodyIn, AreBodiesOf, AddsBodies, AreMissing, CountsBodies}

abbrev pub key_eq : BodyKey → BodyKey → Bool
key_eq a b = (eq-value).it a b

keys_eq : (a b : BodyKey) → key_eq a b ≡ (pointwise nat_eq a.pos.items b.pos.items && pointwise nat_eq a.neg.items b.neg.items)
keys_eq a b = refl

same_from_eq : (a b : BodyKey) → key_eq a b ≡ true → shown a ≡ shown b
same_from_eq a b e =
    let parts = and_parts (pointwise nat_eq a.pos.items b.pos.items) (pointwise nat_eq a.neg.items b.neg.items) e in
    let pos : a.pos.items ≡ b.pos.items = (bytes_eq-Decides a.pos.items b.pos.items).0 parts.0 in
    let neg : a.neg.items ≡ b.neg.items = (bytes_eq-Decides a.neg.items b.neg.items).0 parts.1 in
    cc

both_true : (x y : Bool) → x ≡ true → y ≡ true → (x && y) ≡ true
both_true true true p q = refl
both_true true false p q = q
both_true false y p q = p

eq_from_same : (a b : BodyKey) → shown a ≡ shown b → key_eq a b ≡ true
eq_from_same a b e =
    let pos : a.pos.items ≡ b.pos.items = ap (λ (x : Body). x.pos) e in
    let neg : a.neg.items ≡ b.neg.items = ap (λ (x : Body). x.neg) e in
    both_true (pointwise nat_eq a.pos.items b.pos.items) (pointwise nat_eq a.neg.items b.neg.items)
    ((bytes_eq-Decides a.pos.items b.pos.items).1 pos) ((bytes_eq-Decides a.neg.items b.neg.items).1 neg)

-- a key that equals one of the keys has a body among theirs, and another hasn't
pub there_from_any : (key : BodyKey) (keys : List BodyKey) → list_any (key_eq key) keys ≡ true → Contains (map shown keys) (shown key)
there_from_any key keys e =
    let found = Any-from_list_any (key_eq key) keys e in
    let at : get_or keys found.0 key ≡ found.1 = get_or_default keys found.0 key found.1 found.2 ∙ found.3 in (
      found.0,
      let long : length (map shown keys) ≡ length keys = length-map keys shown in omega (arith, found.2),
      get_or-map shown keys found.0 key ∙ (ap shown at ∙ sym (same_from_eq key found.1 found.4)),
    )

pub absent_from_none : (key : BodyKey) (keys : List BodyKey) → list_any (key_eq key) keys ≡ false → ¬ Contains (map shown keys) (shown key)
absent_from_none key keys e (k, within, is) =
    let long : length (map shown keys) ≡ length keys = length-map keys shown in
    let inside : k < length keys = omega arith in
    let same : shown key ≡ shown (get_or keys k key) = sym is ∙ get_or-map shown keys k key in
    let any = list_any-from_Any (key_eq key) keys (k, get_or keys k key, inside, get_or_default keys k (get_or keys k key) key inside, eq_from_same key (get_or keys k key) same) in
    false≢true (sym e ∙ any)

-- different keys have different bodies
pub once_from_distinct : (keys : List BodyKey) → IsDistinct key_eq keys → AllPairs (λ b c. b ≢ c) (map shown keys)
unfolding IsDistinct
once_from_distinct [] d = λ i j x less within. absurd (omega arith)
once_from_distinct (key ∷ keys) d =
    AllPairs-cons (λ b c. b ≢ c) (shown key) (map shown keys)
    (All-map (λ c. shown key ≢ c) shown keys
    (All-weaker (λ k. key_eq key k ≡ false) (λ k. shown key ≢ shown k) (λ k apart same. false≢true (sym apart ∙ eq_from_same key k same)) keys
    (All-from_recursion (λ k. key_eq key k ≡ false) keys d.0)))
    (once_from_distinct keys d.1)

-- what an insertion does to the bodies
inserted_by : (b : Bool) (keys : List BodyKey) (key : BodyKey) → list_any (key_eq key) keys ≡ b
    → (Contains (map shown keys) (shown key) × (map shown (if b then keys else keys ++ key ∷ []) ≡ map shown keys))
    ⊎ ((¬ Contains (map shown keys) (shown key)) × (map shown (if b then keys else keys ++ key ∷ []) ≡ map shown keys ++ shown key ∷ []))
inserted_by true keys key e = inl (there_from_any key keys e, refl)
inserted_by false keys key e = inr (absent_from_none key keys e, map-append shown keys (key ∷ []))

inserted : (old new : List BodyKey) (key : BodyKey) → new ≡ insert_key key_eq old key
    → (Contains (map shown old) (shown key) × (map shown new ≡ map shown old))
    ⊎ ((¬ Contains (map shown old) (shown key)) × (map shown new ≡ map shown old ++ shown key ∷ []))
inserted old new key is =
    let P : List BodyKey → Type 0 = λ keys. (Contains (map shown old) (shown key) × (map shown keys ≡ map shown old))
    ⊎ ((¬ Contains (map shown old) (shown key)) × (map shown keys ≡ map shown old ++ shown key ∷ [])) in
    subst P (sym is) (inserted_by (list_any (key_eq key) old) old key refl)

-- the only body of one rule
one_body : (rule : GroundRule) (b : Body) → IsBodyIn (rule ∷ []) b → body_of rule ≡ b
one_body rule b (zero, x, within, is, same) = ap body_of is ∙ same
one_body rule b (suc k, x, within, is, same) = absurd (omega arith)

its_body : (rule : GroundRule) → IsBodyIn (rule ∷ []) (body_of rule)
its_body rule = (0, rule, omega arith, refl, refl)

-- the bodies after the one of a rule came to them
pub added_one : (old new : List BodyKey) (key : BodyKey) (rule : GroundRule) → new ≡ insert_key key_eq old key → shown key ≡ body_of rule
    → AddsBodies (map shown old) (rule ∷ []) (map shown new)
added_one old new key rule is shows = elim (inserted old new key is) [
  | inl there ↦ record {
    each = λ b has. inl (subst (λ bs. Contains bs b) there.1 has);
    kept = λ b has. subst (λ bs. Contains bs b) (sym there.1) has;
    all = λ b of. subst (λ bs. Contains bs b) (sym there.1) (subst (Contains (map shown old)) (shows ∙ one_body rule b of) there.0);
  }
  | inr fresh ↦ record {
    each = λ b has. elim (Contains-push_cases (map shown old) (shown key) b (subst (λ bs. Contains bs b) fresh.1 has)) [
      | inl before ↦ inl before
      | inr last ↦ inr (subst (IsBodyIn (rule ∷ [])) (sym shows ∙ last) (its_body rule))
    ];
    kept = λ b has. subst (λ bs. Contains bs b) (sym fresh.1) (Contains-append_left (map shown old) (shown key ∷ []) b has);
    all = λ b of. subst (λ bs. Contains bs b) (sym fresh.1)
        (subst (Contains (map shown old ++ shown key ∷ [])) (shows ∙ one_body rule b of) (Contains-push (map shown old) (shown key)));
  }
]

Any-append_left : (P : GroundRule → Type 0) (xs ys : List GroundRule) → Any P xs → Any P (xs ++ ys)
Any-append_left P xs ys (k, x, within, is, p) =
    (k, x, omega (arith, length-append xs ys), get_or_append_left xs ys x k within ∙ is, p)

Any-append_right : (P : GroundRule → Type 0) (xs ys : List GroundRule) → Any P ys → Any P (xs ++ ys)
Any-append_right P [] ys any = any
Any-append_right P (x ∷ xs) ys any =
    let (k, y, within, is, p) = Any-append_right P xs ys any in
    (suc k, y, omega arith, is, p)

Any-append_cases : (P : GroundRule → Type 0) (xs ys : List GroundRule) → Any P (xs ++ ys) → Any P xs ⊎ Any P ys
Any-append_cases P [] ys any = inr any
Any-append_cases P (x ∷ xs) ys (zero, y, within, is, p) = inl (zero, y, omega arith, is, p)
Any-append_cases P (x ∷ xs) ys (suc k, y, within, is, p) = elim (Any-append_cases P xs ys (k, y, omega arith, is, p)) [
  | inl (j, z, inside, here, q) ↦ inl (suc j, z, omega arith, here, q)
  | inr there ↦ inr there
]

-- the bodies of one list of rules and then of another
pub AddsBodies-append : (old mid new : List Body) (before after : List GroundRule) → AddsBodies old before mid → AddsBodies mid after new
    → AddsBodies old (before ++ after) new
AddsBodies-append old mid new before after first second = record {
  each = λ b has. elim (second.each b has) [
    | inl there ↦ elim (first.each b there) [
      | inl here ↦ inl here
      | inr of ↦ inr (Any-append_left (λ rule. body_of rule ≡ b) before after of)
    ]
    | inr of ↦ inr (Any-append_right (λ rule. body_of rule ≡ b) before after of)
  ];
  kept = λ b has. second.kept b (first.kept b has);
  all = λ b of. elim (Any-append_cases (λ rule. body_of rule ≡ b) before after of) [
    | inl here ↦ second.kept b (first.all b here)
    | inr there ↦ second.all b there
  ];
}

pub AddsBodies-none : (old : List Body) → AddsBodies old [] old
AddsBodies-none old = record {
  each = λ b has. inl has;
  kept = λ b has. has;
  all = λ b (k, x, within, is, same). absurd (omega arith);
}

-- the missing bodies after a rule whose body is there
missing_there : (old missing : List Body) (before : List GroundRule) (rule : GroundRule) → Contains old (body_of rule) → AreMissing old before missing
    → AreMissing old (before ++ rule ∷ []) missing
missing_there old missing before rule there are = record {
  adds = AddsBodies-append old (old ++ missing) (old ++ missing) before (rule ∷ []) are.adds (record {
    each = λ b has. inl has;
    kept = λ b has. has;
    all = λ b of. Contains-append_left old missing b (subst (Contains old) (one_body rule b of) there);
  });
  lacks = are.lacks;
}

-- and after one whose body isn't
missing_added : (old missing new : List Body) (before : List GroundRule) (rule : GroundRule) → (¬ Contains old (body_of rule)) → AddsBodies missing (rule ∷ []) new
    → AreMissing old before missing → AreMissing old (before ++ rule ∷ []) new
missing_added old missing new before rule absent added are = record {
  adds = AddsBodies-append old (old ++ missing) (old ++ new) before (rule ∷ []) are.adds (record {
    each = λ b has. elim (Contains-append_cases old new b has) [
      | inl first ↦ inl (Contains-append_left old missing b first)
      | inr second ↦ elim (added.each b second) [
        | inl here ↦ inl (Contains-append_right old missing b here)
        | inr of ↦ inr of
      ]
    ];
    kept = λ b has. elim (Contains-append_cases old missing b has) [
      | inl first ↦ Contains-append_left old new b first
      | inr second ↦ Contains-append_right old new b (added.kept b second)
    ];
    all = λ b of. Contains-append_right old new b (added.all b of);
  });
  lacks = λ b has. elim (added.each b has) [
    | inl here ↦ are.lacks b here
    | inr of ↦ subst (λ x. ¬ Contains old x) (one_body rule b of) absent
  ];
}

-- the missing bodies after a key that isn't there was inserted among them
pub key_added : (keys missing new : List BodyKey) (old lacking : List Body) (key : BodyKey) (rule : GroundRule) (test : Bool)
    → map shown keys ≡ old → map shown missing ≡ lacking → shown key ≡ body_of rule → test ≡ list_any (key_eq key) keys → test ≡ false
    → new ≡ insert_key key_eq missing key
    → (before : List GroundRule) → AreMissing old before lacking → AreMissing old (before ++ rule ∷ []) (map shown new)
key_added keys missing new old lacking key rule test old_is lacking_is shows tested absent is before are =
    missing_added old lacking (map shown new) before rule
    (subst (λ b. ¬ Contains old b) shows (subst (λ bs. ¬ Contains bs (shown key)) old_is (absent_from_none key keys (sym tested ∙ absent))))
    (subst (λ bs. AddsBodies bs (rule ∷ []) (map shown new)) lacking_is (added_one missing new key rule is shows)) are

pub key_there : (keys : List BodyKey) (old missing : List Body) (key : BodyKey) (rule : GroundRule) (test : Bool)
    → map shown keys ≡ old → shown key ≡ body_of rule → test ≡ list_any (key_eq key) keys → test ≡ true
    → (before : List GroundRule) → AreMissing old before missing → AreMissing old (before ++ rule ∷ []) missing
key_there keys old missing key rule test old_is shows tested there before are =
    missing_there old missing before rule
    (subst (Contains old) shows (subst (λ bs. Contains bs (shown key)) old_is (there_from_any key keys (sym tested ∙ there)))) are

-- two lists without an element in common are different elements together
pub AllPairs-together : {X : Type 0} (xs ys : List X) → AllPairs (λ b c. b ≢ c) xs → AllPairs (λ b c. b ≢ c) ys → ((b : X) → Contains ys b → ¬ Contains xs b)
    → AllPairs (λ b c. b ≢ c) (xs ++ ys)
AllPairs-together [] ys once also apart = also
AllPairs-together (x ∷ xs) ys once also apart =
    AllPairs-cons (λ b c. b ≢ c) x (xs ++ ys)
    (All-append (λ c. x ≢ c) xs ys (λ k d within. once 0 (suc k) d (omega arith) (omega arith))
    (λ k d within same. apart (get_or ys k d) (Contains-get_or ys k d within) (0, omega arith, same)))
    (AllPairs-together xs ys (λ i j d less within. once (suc i) (suc j) d (omega arith) (omega arith)) also
    (λ b has (k, within, is). apart b has (suc k, omega arith, is)))

-- the count of the bodies here and of those that are missing
pub counted : (old missing : List Body) (rules : List GroundRule) (count : ℕ) → AllPairs (λ b c. b ≢ c) old → AllPairs (λ b c. b ≢ c) missing
    → AreMissing old rules missing → count ≡ length old + length missing → CountsBodies old rules count
counted old missing rules count once also are sum = record {
  bodies = old ++ missing;
  adds = are.adds;
  once = AllPairs-together old missing once also are.lacks;
  length_is = length-append old missing ∙ sym sum;
}

pub counted_keys : (keys lacking : List BodyKey) (old missing : List Body) (rules : List GroundRule) (m n : ℕ)
    → map shown keys ≡ old → map shown lacking ≡ missing → IsDistinct key_eq keys → IsDistinct key_eq lacking
    → m ≡ length keys → n ≡ length lacking → AreMissing old rules missing → CountsBodies old rules (m + n)
counted_keys keys lacking old missing rules m n old_is missing_is once also first second are =
    counted old missing rules (m + n)
    (subst (AllPairs (λ b c. b ≢ c)) old_is (once_from_distinct keys once))
    (subst (AllPairs (λ b c. b ≢ c)) missing_is (once_from_distinct lacking also)) are
    (let one : length (map shown keys) ≡ length keys = length-map keys shown in
    let two : length (map shown lacking) ≡ length lacking = length-map lacking shown in
    omega (arith, ap length old_is, ap length missing_is))

-- the rules of a loop and the next one
pub next_rule : (rules : List GroundRule) (i : ℕ) (rule : GroundRule) → i < length rules → rule ≡ get_or rules i rule → take (i + 1) rules ≡ take i rules ++ rule ∷ []
next_rule rules i rule within is = take_more rules i rule within ∙ ap (λ r. take i rules ++ r ∷ []) (sym is)

pub AreBodiesOf-none : AreBodiesOf [] []
AreBodiesOf-none = record {
  each = λ b (k, within, is). absurd (omega arith);
  all = λ b (k, x, within, is, same). absurd (omega arith);
}

pub AreBodiesOf-more : (old new : List Body) (before after : List GroundRule) → AreBodiesOf old before → AddsBodies old after new → AreBodiesOf new (before ++ after)
AreBodiesOf-more old new before after are adds = record {
  each = λ b has. elim (adds.each b has) [
    | inl there ↦ Any-append_left (λ rule. body_of rule ≡ b) before after (are.each b there)
    | inr of ↦ Any-append_right (λ rule. body_of rule ≡ b) before after of
  ];
  all = λ b of. elim (Any-append_cases (λ rule. body_of rule ≡ b) before after of) [
    | inl here ↦ adds.kept b (are.all b here)
    | inr there ↦ adds.all b there
  ];
}
