-- A look-up is hashed and compared as the node that it is for.
use Rattle.std.proofs.Common.{◌≡◌, ℕ, ◌&&◌, refl, List, nat_eq}
use Rattle.std.specs.Bool.{IsTrue}
use Rattle.std.specs.Cmp.Lexicographic.{pointwise}
use Rattle.std.proofs.lemmas.Slice.Eq.{bytes_eq-Decides}
use Rattle.std.proofs.lemmas.Bool.{and_parts, false≢true}
use Rattle.std.proofs.lemmas.Bool.Decides.{Decides-int_eq, Decides-eqb}
use Rattle.ms_term.specs.declared.node.Node.{Node}
use Rattle.ms_term.specs.declared.node.Node.TheVariants as node
use Rattle.ms_term.specs.declared.wanted.Wanted.{Wanted}
use Rattle.ms_term.specs.declared.wanted.Wanted.TheVariants.{Number, Text, Function}
use Rattle.ms_term.specs.contracts.node.NodePartialEq.TheImpl.{eq-value}
use Rattle.ms_term.specs.contracts.node.NodeHash.TheImpl.{hash_input-value}
use Rattle.ms_term.specs.contracts.wanted.WantedHash.TheImpl.{hash_input-value as wanted_input-value}
use Rattle.ms_term.specs.Wanted.{matches}

-- what two functions are alike in, where a look-up for one passes at the other
functions-same : (f g k l : ℕ) (xs ys : List ℕ) → IsTrue (nat_eq f g && (pointwise nat_eq xs ys && nat_eq k l)) → (f ≡ g) × (xs ≡ ys) × (k ≡ l)
functions-same f g k l xs ys h =
    let parts = and_parts (nat_eq f g) (pointwise nat_eq xs ys && nat_eq k l) h in
    let rest = and_parts (pointwise nat_eq xs ys) (nat_eq k l) parts.1 in
    ((Decides-eqb f g).0 parts.0, (bytes_eq-Decides xs ys).0 rest.0, (Decides-eqb k l).0 rest.1)

pub matches_hash : (q : Wanted) (k : Node) → IsTrue (matches q k) → (wanted_input-value).it q ≡ (hash_input-value).it k
matches_hash (Number m) (node.Number n) h = let same : m ≡ n = (Decides-int_eq m n).0 h in cc
matches_hash (Number m) (node.Text w) h = absurd (false≢true h)
matches_hash (Number m) (node.Function g ys l) h = absurd (false≢true h)
matches_hash (Text v) (node.Number n) h = absurd (false≢true h)
matches_hash (Text v) (node.Text w) h = let same : v ≡ w = (Decides-eqb v w).0 h in cc
matches_hash (Text v) (node.Function g ys l) h = absurd (false≢true h)
matches_hash (Function f xs k) (node.Number n) h = absurd (false≢true h)
matches_hash (Function f xs k) (node.Text w) h = absurd (false≢true h)
matches_hash (Function f xs k) (node.Function g ys l) h =
    let same = functions-same f g k l xs.now ys.items h in
    let name : f ≡ g = same.0 in
    let arguments : xs.now ≡ ys.items = same.1 in
    let size : k ≡ l = same.2 in
    cc

pub matches_eq : (q : Wanted) (x y : Node) → IsTrue (matches q x) → matches q y ≡ (eq-value).it x y
matches_eq (Number m) (node.Number n) (node.Number o) h = let same : m ≡ n = (Decides-int_eq m n).0 h in cc
matches_eq (Number m) (node.Number n) (node.Text o) h = refl
matches_eq (Number m) (node.Number n) (node.Function g ys l) h = refl
matches_eq (Number m) (node.Text w) y h = absurd (false≢true h)
matches_eq (Number m) (node.Function g ys l) y h = absurd (false≢true h)
matches_eq (Text v) (node.Number n) y h = absurd (false≢true h)
matches_eq (Text v) (node.Text w) (node.Number o) h = refl
matches_eq (Text v) (node.Text w) (node.Text o) h = let same : v ≡ w = (Decides-eqb v w).0 h in cc
matches_eq (Text v) (node.Text w) (node.Function g ys l) h = refl
matches_eq (Text v) (node.Function g ys l) y h = absurd (false≢true h)
matches_eq (Function f xs k) (node.Number n) y h = absurd (false≢true h)
matches_eq (Function f xs k) (node.Text w) y h = absurd (false≢true h)
matches_eq (Function f xs k) (node.Function g ys l) (node.Number o) h = refl
matches_eq (Function f xs k) (node.Function g ys l) (node.Text o) h = refl
matches_eq (Function f xs k) (node.Function g ys l) (node.Function o zs m) h =
    let same = functions-same f g k l xs.now ys.items h in
    let name : f ≡ g = same.0 in
    let arguments : xs.now ≡ ys.items = same.1 in
    let size : k ≡ l = same.2 in
    cc
