-- The words of commands that take numbers: a word that begins with a hyphen is none, and other numbers of words ask for
-- nothing.
use Rattle.std.proofs.Common.{◌≡◌, ◌≢◌, ◌≤◌, ℕ, Bool, true, false, List, [], ◌∷◌, refl, ap, subst, arith, length}
use Rattle.std.specs.Prelude.{Option, Some, None, option_and_then, option_map, ◌||◌, ◌&&◌, nat_le, codes, if◌then◌else◌}
use Rattle.std.specs.Str.{bytes_eq}
use Rattle.std.proofs.lemmas.Bool.Decides.{nat_tests}
use Rattle.frame_pool.specs.Frames.{most_frames}
use Rattle.implicit_tiling.specs.Request.{number, line_of_words}
use Rattle.tileset_make.specs.declared.recipe.Recipe.{Recipe}
use Rattle.commands.specs.Commands.{Wish, tiles, check, make, survey, replay, batch, serve, asked, HasNumbers, surveyed}
use Rattle.commands.specs.Commands.{tiles_asked, check_asked, make_asked, survey_asked, replay_asked, batch_asked, serve_asked}
use Rattle.commands.specs.Survey.{most_surveyed_levels}
use Rattle.commands.specs.Words.{begins_with_hyphen, has_hyphen, without_dashes, recipe_of_words, number_to, most_seats, last_port}
use Rattle.commands.proofs.Given.{no_bool, none_after, no_number}

no_number_to : (last : ℕ) (w : List ℕ) → begins_with_hyphen w ≡ true → number_to last w ≡ None
no_number_to last w h = ap (option_and_then _) (no_number w h)

two_by : (f : ℕ → ℕ → Wish) (l m : ℕ) (a b : List ℕ) (x y : Bool) → begins_with_hyphen a ≡ x → begins_with_hyphen b ≡ y
    → (x || (y || false)) ≡ true → option_and_then (λ n. option_map (λ k. f n k) (number_to m b)) (number_to l a) ≡ None
two_by f l m a b true y p q r = ap (option_and_then _) (no_number_to l a p)
two_by f l m a b false true p q r = none_after (number_to l a) _ (λ n. ap (option_map _) (no_number_to m b q))
two_by f l m a b false false p q r = absurd (no_bool r)

three_by : (a b c : List ℕ) (x y z : Bool) → begins_with_hyphen a ≡ x → begins_with_hyphen b ≡ y → begins_with_hyphen c ≡ z
    → (x || (y || (z || false))) ≡ true → serve_asked (a ∷ b ∷ c ∷ []) ≡ None
three_by a b c true y z p q r h = ap (option_and_then _) (no_number_to last_port a p)
three_by a b c false true z p q r h =
    none_after (number_to last_port a) _ (λ n. ap (option_and_then _) (no_number_to most_seats b q))
three_by a b c false false true p q r h =
    none_after (number_to last_port a) _ (λ n. none_after (number_to most_seats b) _ (λ v. ap (option_map _) (no_number_to most_frames c r)))
three_by a b c false false false p q r h = absurd (no_bool h)

pub no_replay : (words : List (List ℕ)) → has_hyphen words ≡ true → replay_asked words ≡ None
no_replay [] h = absurd (no_bool h)
no_replay (a ∷ []) h = refl
no_replay (a ∷ b ∷ []) h = two_by replay most_frames most_seats a b _ _ refl refl h
no_replay (a ∷ b ∷ c ∷ more) h = refl

pub no_batch : (words : List (List ℕ)) → has_hyphen words ≡ true → batch_asked words ≡ None
no_batch [] h = absurd (no_bool h)
no_batch (a ∷ []) h = refl
no_batch (a ∷ b ∷ []) h = two_by batch most_seats most_frames a b _ _ refl refl h
no_batch (a ∷ b ∷ c ∷ more) h = refl

pub no_serve : (words : List (List ℕ)) → has_hyphen words ≡ true → serve_asked words ≡ None
no_serve [] h = absurd (no_bool h)
no_serve (a ∷ []) h = refl
no_serve (a ∷ b ∷ []) h = refl
no_serve (a ∷ b ∷ c ∷ []) h = three_by a b c _ _ _ refl refl refl h
no_serve (a ∷ b ∷ c ∷ d ∷ more) h = refl

-- ---- other numbers of words

pub replay_of_two : (words : List (List ℕ)) → length words ≢ 2 → replay_asked words ≡ None
replay_of_two [] n = refl
replay_of_two (a ∷ []) n = refl
replay_of_two (a ∷ b ∷ []) n = absurd (n refl)
replay_of_two (a ∷ b ∷ c ∷ more) n = refl

pub batch_of_two : (words : List (List ℕ)) → length words ≢ 2 → batch_asked words ≡ None
batch_of_two [] n = refl
batch_of_two (a ∷ []) n = refl
batch_of_two (a ∷ b ∷ []) n = absurd (n refl)
batch_of_two (a ∷ b ∷ c ∷ more) n = refl

pub serve_of_three : (words : List (List ℕ)) → length words ≢ 3 → serve_asked words ≡ None
serve_of_three [] n = refl
serve_of_three (a ∷ []) n = refl
serve_of_three (a ∷ b ∷ []) n = refl
serve_of_three (a ∷ b ∷ c ∷ []) n = absurd (n refl)
serve_of_three (a ∷ b ∷ c ∷ d ∷ more) n = refl

-- ---- numbers that were read are within their ranges

within_by : (last n m : ℕ) (b : Bool) → (nat_le 1 n && nat_le n last) ≡ b → (if b then Some n else None) ≡ Some m → (1 ≤ m) × (m ≤ last)
within_by last n m true is same = let n_is : n ≡ m = cc in (grind (arith, nat_tests, is, n_is), grind (arith, nat_tests, is, n_is))
within_by last n m false is same = cc

within_of : (last m : ℕ) (read : Option ℕ) → option_and_then (λ n. if nat_le 1 n && nat_le n last then Some n else None) read ≡ Some m
    → (1 ≤ m) × (m ≤ last)
within_of last m None same = cc
within_of last m (Some n) same = within_by last n m _ refl same

pub within : (last m : ℕ) (w : List ℕ) → number_to last w ≡ Some m → (1 ≤ m) × (m ≤ last)
within last m w same = within_of last m (number w) same

some_wish : (w v : Wish) → Some w ≡ Some v → HasNumbers w → HasNumbers v
some_wish w v same h = let is : w ≡ v = cc in subst HasNumbers is h

mapped : {A : Type 0} (f : A → Wish) (o : Option A) (w : Wish) → ((a : A) → HasNumbers (f a)) → option_map f o ≡ Some w → HasNumbers w
mapped f None w each same = cc
mapped f (Some a) w each same = some_wish (f a) w same (each a)

chosen : (b : Bool) (x y : Option Wish) (w : Wish) → (x ≡ Some w → HasNumbers w) → (y ≡ Some w → HasNumbers w) → (if b then x else y) ≡ Some w → HasNumbers w
chosen true x y w hx hy same = hx same
chosen false x y w hx hy same = hy same

bound : {A : Type 0} (g : A → Option Wish) (o : Option A) (w : Wish) → ((a : A) → o ≡ Some a → g a ≡ Some w → HasNumbers w) → option_and_then g o ≡ Some w
    → HasNumbers w
bound g None w each same = cc
bound g (Some a) w each same = each a refl same

bounded : {A : Type 0} (f : A → Wish) (o : Option A) (w : Wish) → ((a : A) → o ≡ Some a → HasNumbers (f a)) → option_map f o ≡ Some w → HasNumbers w
bounded f None w each same = cc
bounded f (Some a) w each same = some_wish (f a) w same (each a refl)

replay_within : (words : List (List ℕ)) (w : Wish) → replay_asked words ≡ Some w → HasNumbers w
replay_within [] w same = cc
replay_within (a ∷ []) w same = cc
replay_within (a ∷ b ∷ []) w same =
    bound (λ f. option_map (λ p. replay f p) (number_to most_seats b)) (number_to most_frames a) w
    (λ f few is. bounded (λ p. replay f p) (number_to most_seats b) w
    (λ p seats. ((within most_frames f a few).0, (within most_frames f a few).1, (within most_seats p b seats).0, (within most_seats p b seats).1)) is) same
replay_within (a ∷ b ∷ c ∷ more) w same = cc

batch_within : (words : List (List ℕ)) (w : Wish) → batch_asked words ≡ Some w → HasNumbers w
batch_within [] w same = cc
batch_within (a ∷ []) w same = cc
batch_within (a ∷ b ∷ []) w same =
    bound (λ n. option_map (λ f. batch n f) (number_to most_frames b)) (number_to most_seats a) w
    (λ n seats is. bounded (λ f. batch n f) (number_to most_frames b) w
    (λ f few. ((within most_seats n a seats).0, (within most_seats n a seats).1, (within most_frames f b few).0, (within most_frames f b few).1)) is) same
batch_within (a ∷ b ∷ c ∷ more) w same = cc

serve_within : (words : List (List ℕ)) (w : Wish) → serve_asked words ≡ Some w → HasNumbers w
serve_within [] w same = cc
serve_within (a ∷ []) w same = cc
serve_within (a ∷ b ∷ []) w same = cc
serve_within (a ∷ b ∷ c ∷ []) w same =
    bound (λ p. option_and_then (λ v. option_map (λ f. serve p v f) (number_to most_frames c)) (number_to most_seats b)) (number_to last_port a) w
    (λ p port is. bound (λ v. option_map (λ f. serve p v f) (number_to most_frames c)) (number_to most_seats b) w
    (λ v seats js. bounded (λ f. serve p v f) (number_to most_frames c) w
    (λ f few. (
      (within last_port p a port).0,
      (within last_port p a port).1,
      (within most_seats v b seats).0,
      (within most_seats v b seats).1,
      (within most_frames f c few).0,
      (within most_frames f c few).1,
    )) js) is) same
serve_within (a ∷ b ∷ c ∷ d ∷ more) w same = cc

check_within : (words : List (List ℕ)) (w : Wish) → check_asked words ≡ Some w → HasNumbers w
check_within [] w same = some_wish check w same tt
check_within (a ∷ more) w same = cc

none_within : (w : Wish) → None ≡ Some w → HasNumbers w
none_within w same = cc

surveyed_within : (r : Recipe) (w : Wish) → surveyed r ≡ Some w → HasNumbers w
surveyed_within r w same =
    chosen (nat_le r.subtree_levels most_surveyed_levels) (Some (survey r)) None w (λ s. some_wish (survey r) w s tt) (none_within w) same

pub asked_within : (words : List (List ℕ)) (w : Wish) → asked words ≡ Some w → HasNumbers w
asked_within [] w same = cc
asked_within (name ∷ words) w same =
    let rest = without_dashes words in
    chosen (bytes_eq name (codes "tiles")) (tiles_asked rest) _ w (λ s. mapped tiles (line_of_words rest) w (λ l. tt) s)
    (chosen (bytes_eq name (codes "check")) (check_asked rest) _ w (check_within rest w)
    (chosen (bytes_eq name (codes "make")) (make_asked rest) _ w (λ s. mapped make (recipe_of_words rest) w (λ r. tt) s)
    (chosen (bytes_eq name (codes "survey")) (survey_asked rest) _ w (λ s. bound surveyed (recipe_of_words rest) w (λ r known is. surveyed_within r w is) s)
    (chosen (bytes_eq name (codes "replay")) (replay_asked rest) _ w (replay_within rest w)
    (chosen (bytes_eq name (codes "batch")) (batch_asked rest) _ w (batch_within rest w)
    (chosen (bytes_eq name (codes "serve")) (serve_asked rest) None w (serve_within rest w) (none_within w))))))) same
