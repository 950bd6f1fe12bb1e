-- Lines one behind the other, and how they are written.
use Rattle.std.proofs.Common.{◌≡◌, ℕ, zero, suc, ◌+◌, ◌*◌, ◌<◌, ◌≤◌, List, [], ◌++◌, length, sym, refl, ap, ◌∙◌, subst, inl, inr, append_assoc, append-nil, add-mul, arith, length-append}
use Rattle.std.proofs.lemmas.Bool.{cases_eq}
use Rattle.lines.specs.Lines.{written}
use Rattle.lines.proofs.Written.{written_none, written_then, length_written}
use Rattle.listings.specs.Listings.{lines_to}

-- Of no number there are no lines, and one number more adds its line.
pub lines_none : (f : ℕ → List ℕ) → lines_to 0 f ≡ []
unfolding lines_to
lines_none f = refl

pub lines_more : (n : ℕ) (f : ℕ → List ℕ) → lines_to (suc n) f ≡ lines_to n f ++ f n
unfolding lines_to
lines_more n f = refl

-- The same lines make the same text.
pub lines_same : (n : ℕ) (f h : ℕ → List ℕ) → ((k : ℕ) → k < n → f k ≡ h k) → lines_to n f ≡ lines_to n h
lines_same zero f h same = lines_none f ∙ sym (lines_none h)
lines_same (suc n) f h same =
    lines_more n f ∙ (λ i. lines_same n f h (λ k l. same k (omega arith)) i ++ same n (omega arith) i) ∙ sym (lines_more n h)

-- Empty lines make nothing.
pub lines_empty : (n : ℕ) (f : ℕ → List ℕ) → ((k : ℕ) → k < n → f k ≡ []) → lines_to n f ≡ []
lines_empty zero f empty = lines_none f
lines_empty (suc n) f empty = lines_more n f ∙ (λ i. lines_empty n f (λ k l. empty k (omega arith)) i ++ empty n (omega arith) i)

-- The first line stands before the others.
pub lines_front : (n : ℕ) (f : ℕ → List ℕ) → lines_to (suc n) f ≡ f 0 ++ lines_to n (λ (k : ℕ). f (suc k))
lines_front zero f = lines_more 0 f ∙ ap (λ xs. xs ++ f 0) (lines_none f) ∙ sym (ap (λ xs. f 0 ++ xs) (lines_none (λ (k : ℕ). f (suc k))) ∙ append-nil (f 0))
lines_front (suc n) f =
    let later : ℕ → List ℕ = λ (k : ℕ). f (suc k) in
    lines_more (suc n) f
    ∙ ap (λ xs. xs ++ f (suc n)) (lines_front n f)
    ∙ append_assoc (f 0) (lines_to n later) (f (suc n))
    ∙ ap (λ xs. f 0 ++ xs) (sym (lines_more n later))

-- Where all lines up to p are empty in h, and in f those before p, and behind p both agree, f has the line of p before those of h.
pub lines_first :
    (n p : ℕ) (f h : ℕ → List ℕ) → p < n → ((k : ℕ) → k < p → f k ≡ []) → ((k : ℕ) → k ≤ p → h k ≡ [])
    → ((k : ℕ) → p < k → f k ≡ h k) → lines_to n f ≡ f p ++ lines_to n h
lines_first zero p f h within before upto behind = absurd (let no : ⊥ = omega arith in no)
lines_first (suc n) p f h within before upto behind =
    elim (cases_eq n p) [
      | inl last ↦
          lines_more n f
          ∙ (λ i. lines_empty n f (λ k l. before k (omega (arith, last))) i ++ f (last i))
          ∙ sym (ap (λ xs. f p ++ xs) (lines_empty (suc n) h (λ k l. upto k (omega (arith, last)))) ∙ append-nil (f p))
      | inr other ↦
          let less : p < n = omega (arith, other) in
          lines_more n f
          ∙ (λ i. lines_first n p f h less before upto behind i ++ behind n less i)
          ∙ append_assoc (f p) (lines_to n h) (h n)
          ∙ ap (λ xs. f p ++ xs) (sym (lines_more n h))
    ]

-- The lines below i stand in the buffer from a place on, each of them at most so long.
pub record Listed (b : List ℕ) (at : ℕ) (f : ℕ → List ℕ) (most i : ℕ) (w : List ℕ) (place : ℕ) : Type 0 where
  pub end : place ≡ at + length (lines_to i f)
  pub few : place ≤ at + i * most
  pub bytes : w ≡ written b at (lines_to i f)
  pub long : length w ≡ length b

-- At first there are none.
pub listed_none : (b : List ℕ) (at : ℕ) (f : ℕ → List ℕ) (most : ℕ) → Listed b at f most 0 b at
listed_none b at f most = record {
  end = omega (arith, ap length (lines_none f));
  few = omega arith;
  bytes = sym (ap (written b at) (lines_none f) ∙ written_none b at);
  long = refl;
}

-- The next line is written behind them.
pub listed_more :
    (b : List ℕ) (at : ℕ) (f : ℕ → List ℕ) (most i : ℕ) (w : List ℕ) (place : ℕ) (v : List ℕ) (next : ℕ)
    → Listed b at f most i w place → length (f i) ≤ most → place + most ≤ length b → next ≡ place + length (f i) → v ≡ written w place (f i)
    → Listed b at f most (i + 1) v next
listed_more b at f most i w place v next listed short room ends wrote =
    subst (λ (k : ℕ). Listed b at f most k v next) {x = suc i} {y = i + 1} (omega arith)
    (record {
      end = omega (arith, listed.end, ends, ap length (lines_more i f), length-append (lines_to i f) (f i));
      few = omega (arith, listed.few, short, ends, add-mul 1 i most, one_mul);
      bytes =
          wrote
          ∙ (λ k. written (listed.bytes k) (listed.end k) (f i))
          ∙ written_then b at (lines_to i f) (f i) (omega (arith, listed.end, room))
          ∙ ap (written b at) (sym (lines_more i f));
      long = ap length wrote ∙ length_written w place (f i) (omega (arith, listed.long, room, short)) ∙ listed.long;
    })
  where
    one_mul : 1 * most ≡ most
    one_mul = omega arith

-- Once all are passed, all are written.
pub listed_all :
    (b : List ℕ) (at : ℕ) (f : ℕ → List ℕ) (most i n : ℕ) (w : List ℕ) (place : ℕ) → Listed b at f most i w place → i ≡ n
    → (place ≡ at + length (lines_to n f)) × (place ≤ at + n * most) × (w ≡ written b at (lines_to n f))
listed_all b at f most i n w place listed all = (
  listed.end ∙ ap (λ (k : ℕ). at + length (lines_to k f)) all,
  subst (λ (k : ℕ). place ≤ at + k * most) all listed.few,
  listed.bytes ∙ ap (λ (k : ℕ). written b at (lines_to k f)) all,
)

-- Bytes written behind bytes, with the places where they end.
pub then_written :
    (b : List ℕ) (xs ys : List ℕ) (n m : ℕ) (w v : List ℕ) → n ≡ length xs → w ≡ written b 0 xs → m ≡ n + length ys → v ≡ written w n ys
    → (m ≡ length (xs ++ ys)) × (v ≡ written b 0 (xs ++ ys))
then_written b xs ys n m w v ends wrote next after = (
  omega (arith, ends, next, length-append xs ys),
  after ∙ (λ k. written (wrote k) (at_end k) ys) ∙ written_then b 0 xs ys (omega arith),
)
  where
    at_end : n ≡ 0 + length xs
    at_end = omega (arith, ends)

-- Four texts one behind the other are written as one.
pub four_written :
    (b : List ℕ) (xs ys zs ts : List ℕ) (n m k l : ℕ) (w v u x : List ℕ)
    → n ≡ 0 + length xs → w ≡ written b 0 xs → m ≡ n + length ys → v ≡ written w n ys → k ≡ m + length zs → u ≡ written v m zs → l ≡ k + length ts → x ≡ written u k ts
    → (l ≡ length (xs ++ (ys ++ (zs ++ ts)))) × (x ≡ written b 0 (xs ++ (ys ++ (zs ++ ts))))
four_written b xs ys zs ts n m k l w v u x n-ends w-wrote m-ends v-wrote k-ends u-wrote l-ends x-wrote =
    let two = then_written b xs ys n m w v (omega (arith, n-ends)) w-wrote m-ends v-wrote in
    let three = then_written b (xs ++ ys) zs m k v u two.0 two.1 k-ends u-wrote in
    let four = then_written b ((xs ++ ys) ++ zs) ts k l u x three.0 three.1 l-ends x-wrote in
    let all : ((xs ++ ys) ++ zs) ++ ts ≡ xs ++ (ys ++ (zs ++ ts)) = append_assoc (xs ++ ys) zs ts ∙ append_assoc xs ys (zs ++ ts) in
    (four.0 ∙ ap length all, four.1 ∙ ap (written b 0) all)
