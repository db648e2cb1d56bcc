-- Keys that are detached or attached one after the other.
use Rattle.std.proofs.Common.{ℕ, ◌≡◌, ◌<◌, ◌+◌, ◌⊎◌, inl, inr, List, Bool, true, false, length, get_or, refl, sym, ◌∙◌, ap, arith}
use Rattle.std.specs.Prelude.{◌≢◌}
use Rattle.std.proofs.lemmas.Bool.{both_ways, cases_eq, cases_lt}
use Rattle.std.proofs.lemmas.List.{get_or_default}

-- Of the first keys those that pass the test aren't attached any more, and all else is as it was.
pub record AreDetached (test : ℕ → Bool) (keys : List ℕ) (count : ℕ) (old new : ℕ → Bool) : Type 0 where
  pub gone : (k : ℕ) → k < count → test (get_or keys k 0) ≡ true → new (get_or keys k 0) ≡ false
  pub stays : (key : ℕ) → ((k : ℕ) → k < count → get_or keys k 0 ≡ key → test key ≡ true → ⊥) → new key ≡ old key

pub detached_none : (test : ℕ → Bool) (keys : List ℕ) (count : ℕ) (old : ℕ → Bool) → count ≡ 0 → AreDetached test keys count old old
detached_none test keys count old start = record {
  gone = λ k lt. absurd (omega (arith, lt, start));
  stays = λ key apart. refl;
}

-- one key more, which is detached
pub detached_more : (test : ℕ → Bool) (keys : List ℕ) (count key : ℕ) (old mid new : ℕ → Bool) → AreDetached test keys count old mid → count < length keys → key ≡ get_or keys count key → test key ≡ true → new key ≡ false → ((other : ℕ) → other ≢ key → new other ≡ mid other) → AreDetached test keys (count + 1) old new
detached_more test keys count key old mid new d within read passes changed others =
    let is : key ≡ get_or keys count 0 = read ∙ get_or_default keys count key 0 within in
    record {
      gone = λ k lt it. elim (cases_eq (get_or keys k 0) key) [
        | inl same ↦ ap new same ∙ changed
        | inr other ↦ (
            let before : k < count = elim (cases_lt k count) [
              | inl b ↦ b
              | inr late ↦ (let at : k ≡ count = omega (arith, lt, late) in absurd (other (ap (λ (x : ℕ). get_or keys x 0) at ∙ sym is)))
            ] in
            others (get_or keys k 0) other ∙ d.gone k before it)
      ];
      stays = λ other apart.
          let differs : other ≢ key = λ same. apart count (omega arith) (sym is ∙ sym same) (ap test same ∙ passes) in
          others other differs ∙ d.stays other (λ k lt here it. apart k (omega (arith, lt)) here it);
    }

-- or which doesn't pass the test
pub detached_past : (test : ℕ → Bool) (keys : List ℕ) (count key : ℕ) (old mid : ℕ → Bool) → AreDetached test keys count old mid → count < length keys → key ≡ get_or keys count key → test key ≡ false → AreDetached test keys (count + 1) old mid
detached_past test keys count key old mid d within read fails =
    let is : key ≡ get_or keys count 0 = read ∙ get_or_default keys count key 0 within in
    record {
      gone = λ k lt it. elim (cases_lt k count) [
        | inl before ↦ d.gone k before it
        | inr late ↦ (
            let at : k ≡ count = omega (arith, lt, late) in
            absurd (both_ways (test key) fails (ap test (is ∙ sym (ap (λ (x : ℕ). get_or keys x 0) at)) ∙ it)))
      ];
      stays = λ other apart. d.stays other (λ k lt here it. apart k (omega (arith, lt)) here it);
    }

-- Of the first keys those that hold something are attached, and nothing is detached.
pub record AreWired (holds : ℕ → Bool) (keys : List ℕ) (count : ℕ) (old new : ℕ → Bool) : Type 0 where
  pub wired : (k : ℕ) → k < count → holds (get_or keys k 0) ≡ true → new (get_or keys k 0) ≡ true
  pub stays : (key : ℕ) → old key ≡ true → new key ≡ true
  pub known : (key : ℕ) → new key ≡ true → (old key ≡ true) ⊎ (holds key ≡ true)

pub wired_none : (holds : ℕ → Bool) (keys : List ℕ) (count : ℕ) (old : ℕ → Bool) → count ≡ 0 → AreWired holds keys count old old
wired_none holds keys count old start = record {
  wired = λ k lt. absurd (omega (arith, lt, start));
  stays = λ key is. is;
  known = λ key is. inl is;
}

-- one key more, which is attached where it holds something
pub wired_more : (holds : ℕ → Bool) (keys : List ℕ) (count key : ℕ) (old mid new : ℕ → Bool) → AreWired holds keys count old mid → count < length keys → key ≡ get_or keys count key → (holds key ≡ true → new key ≡ true) → ((other : ℕ) → mid other ≡ true → new other ≡ true) → ((other : ℕ) → new other ≡ true → (mid other ≡ true) ⊎ (holds other ≡ true)) → AreWired holds keys (count + 1) old new
wired_more holds keys count key old mid new w within read here more known =
    let is : key ≡ get_or keys count 0 = read ∙ get_or_default keys count key 0 within in
    record {
      wired = λ k lt it. elim (cases_lt k count) [
        | inl before ↦ more (get_or keys k 0) (w.wired k before it)
        | inr late ↦ (
            let at : k ≡ count = omega (arith, lt, late) in
            let same : get_or keys k 0 ≡ key = ap (λ (x : ℕ). get_or keys x 0) at ∙ sym is in
            ap new same ∙ here (sym (ap holds same) ∙ it))
      ];
      stays = λ other it. more other (w.stays other it);
      known = λ other it. elim (known other it) [
        | inl before ↦ w.known other before
        | inr holding ↦ inr holding
      ];
    }
