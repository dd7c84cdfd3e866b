use Rattle.std.proofs.Common.{◌≡◌, ◌⊎◌, ◌∙◌, ℕ, ◌++◌, List, true, false, Result, Ok, Err, OnOk, is_err, length, map, sym, ap, ap₂, subst, inl, inr, arith}
use Rattle.serde_json.specs.View.{view}
use Rattle.serde_json.specs.Written.{has_float, compact_text}
use Rattle.implicit_tiling.specs.Subtree.{Subtree}
use Rattle.subtree_write.specs.Canonical.{availability_values, padded, file_of, canonical}
use Rattle.subtree_write.proofs.Encoded.{Written, no_float, written_bytes, written_value}
use Rattle.subtree_write.proofs.file.encode.Goals as goal
use Rattle.subtree_write.proofs.file.encode.Goals.{then-is_err, else-is_err}

-- the call gives what was appended, unless it is taken back
kept : {A E : Type 0} (r : Result A E) (appended after whole : List ℕ) → (is_err r ≡ true) ⊎ (after ≡ appended) → OnOk r (appended ≡ whole) → OnOk r (after ≡ whole)
kept (Ok a) appended after whole (inl back) e = absurd (let no : false ≡ true = back in cc)
kept (Ok a) appended after whole (inr same) e = same ∙ e
kept (Err a) appended after whole which e = tt

pub returns-clause-ok : goal.returns-clause-ok
returns-clause-ok c =
    let i = c.subtree.inside in
    let s : Subtree = record { scheme = i.scheme; levels = i.levels; cut = i.cut; root = i.root; tiles = i.tiles; contents = i.contents.items; child = i.child } in
    let start = c.in_ok-streams.streams in
    let tiled = c.write.new.self in
    let filled = c.write_each.new.self in
    let after = c.write-2.new.self in
    let w : Written s start tiled filled after = record {
      no_views = c.in_ok-streams.ensures.views;
      no_bytes = c.in_ok-streams.ensures.bytes;
      tiles = c.in_ok-tiles.ensures.added;
      contents = rw c.deref.ensures.value at c.in_ok-contents.ensures.added;
      child = c.in_ok-child.ensures.added;
    } in
    let content = c.in_ok-contents.ensures.values ∙ ap (availability_values (length tiled.views.items)) c.deref.ensures.value in
    let value = c.in_ok-value.ensures ∙ written_value s start tiled filled after c.len.result (view c.in_ok-tiles.tiles) (view c.in_ok-child.child) (map view c.in_ok-contents.contents.items) w
    (omega (arith, c.len.ensures, after.bytes.ok)) c.in_ok-tiles.ensures.value content c.in_ok-child.ensures.value in
    let json = c.deref-2.ensures.value ∙ c.in_ok-json.ensures (ap has_float value ∙ no_float s) ∙ ap (λ v. padded 32 (compact_text v)) value in
    let bytes = c.deref-3.ensures.value ∙ written_bytes s start tiled filled after w in
    let file = ap₂ file_of json bytes ∙ ap canonical c.subtree.view_is in
    let out = c.args.out.now.items in
    kept c.append_file-appended.result c.append_file-appended.new.out.items c.if-is_err.out.items (out ++ canonical c.args.subtree.now)
    (elim c.if-is_err.branch [ then-is_err w ↦ inl (sym c.is_err.ensures.value ∙ w.if-is_err.true) | else-is_err w ↦ inr (ap (λ v. v.items) w.out-is) ])
    (subst (λ l. OnOk c.append_file-appended.result (c.append_file-appended.new.out.items ≡ out ++ l)) file c.append_file-appended.ensures.ok)
