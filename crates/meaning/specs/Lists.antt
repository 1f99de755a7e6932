-- Lists, choices and little-endian numbers: the words that the other definitions are written in.
use Rattle.std.specs.Prelude.{Bool, true, false, List, [], ◌∷◌, ◌++◌, ℕ, zero, suc, ◌+◌, ◌*◌, ◌/◌, ◌%◌, eqb, length, take, drop, replicate}

unfoldable pub pick : {A : Type 0} → Bool → A → A → A
pick true a b = a
pick false a b = b

unfoldable pub both : Bool → Bool → Bool
both true b = b
both false b = false

-- len elements from at
unfoldable pub part : {A : Type 0} → ℕ → ℕ → List A → List A
part at len l = take len (drop at l)

-- new put over l, from at on
unfoldable pub pasted : {A : Type 0} → ℕ → (new l : List A) → List A
pasted at new l = take at l ++ (new ++ drop (at + length new) l)

unfoldable pub joined : {A : Type 0} → List (List A) → List A
joined [] = []
joined (x ∷ xs) = x ++ joined xs

-- from, from + 1, …: n numbers
unfoldable pub range : ℕ → ℕ → List ℕ
range from zero = []
range from (suc n) = from ∷ range (suc from) n

unfoldable pub filter : {A : Type 0} → (A → Bool) → List A → List A
filter p [] = []
filter p (x ∷ xs) = pick (p x) (x ∷ filter p xs) (filter p xs)

unfoldable pub all : {A : Type 0} → (A → Bool) → List A → Bool
all p [] = true
all p (x ∷ xs) = both (p x) (all p xs)

-- whether p holds of the last element; of none, it does not
unfoldable pub of_last : {A : Type 0} → (A → Bool) → List A → Bool
of_last p [] = false
of_last p (x ∷ []) = p x
of_last p (x ∷ (y ∷ ys)) = of_last p (y ∷ ys)

-- the last element changed
unfoldable pub map_last : {A : Type 0} → (A → A) → List A → List A
map_last f [] = []
map_last f (x ∷ []) = f x ∷ []
map_last f (x ∷ (y ∷ ys)) = x ∷ map_last f (y ∷ ys)

-- f of a list's only element, else b
unfoldable pub only : {A B : Type 0} → (A → B) → B → List A → B
only f b [] = b
only f b (x ∷ []) = f x
only f b (x ∷ (y ∷ ys)) = b

unfoldable pub same_list : List ℕ → List ℕ → Bool
same_list [] [] = true
same_list [] (y ∷ ys) = false
same_list (x ∷ xs) [] = false
same_list (x ∷ xs) (y ∷ ys) = both (eqb x y) (same_list xs ys)

unfoldable pub zeros : List ℕ → Bool
zeros = all (λ x. eqb x 0)

-- the number whose bytes, the lowest first, are these; and a number's k lowest bytes
unfoldable pub number : List ℕ → ℕ
number [] = 0
number (b ∷ bs) = b + 256 * number bs

unfoldable pub bytes : ℕ → ℕ → List ℕ
bytes zero n = []
bytes (suc k) n = n % 256 ∷ bytes k (n / 256)

-- l, cut or followed by zeros, n long
unfoldable pub padded : ℕ → List ℕ → List ℕ
padded n l = take n (l ++ replicate n 0)

-- k numbers of four bytes each
unfoldable pub fours : ℕ → List ℕ → List ℕ
fours zero l = []
fours (suc k) l = number (take 4 l) ∷ fours k (drop 4 l)
