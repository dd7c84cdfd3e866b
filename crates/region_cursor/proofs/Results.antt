-- What is known of a result that is an Ok.
use Rattle.std.specs.Prelude.{Result, Ok, Err, IfOk}

pub if_all : {T E : Type 0} (r : Result T E) (P Q R S : T → Type 0) → ((x : T) → P x → Q x → R x → S x) → IfOk r P → IfOk r Q → IfOk r R → IfOk r S
if_all (Ok x) P Q R S f p q r = f x p q r
if_all (Err e) P Q R S f p q r = tt
