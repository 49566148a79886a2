-- The line of a header has no fraction.
use Rattle.std.specs.Prelude.{◌≡◌, ◌==◌, ℕ, Bool, true, false, cond, List, [], ◌∷◌, map, Option, None, Some}
use Rattle.std.proofs.Common.{refl}
use Rattle.serde_json.specs.Data.{no_members}
use Rattle.serde_json.specs.View.{items_of}
use Rattle.serde_json.specs.Written.{has_float}
use Rattle.pp_core.specs.Catalogs.{HasNames, Objects}
use Rattle.pp_core.specs.Words.{style_word}
use Rattle.pp_core.specs.declared.call.Style.{Style}
use Rattle.pp_core.specs.declared.call.Style.TheVariants as styles
use Rattle.pp_core.specs.declared.entry.Item.{Item}
use Rattle.pp_objects.specs.Objects.{place_of}
use Rattle.pp_objects.specs.One.{call_of, recorded_by}
use Rattle.pp_objects.specs.declared.act.Op.{Op}
use Rattle.pp_format_read.specs.declared.header.Header.{Header}
use Rattle.pp_format_read.specs.declared.start.Start.{Start}
use Rattle.pp_format_write.specs.Headers.{item_value}
use Rattle.pp_format_write.specs.Operations.{op_members}
use Rattle.pp_format_write.specs.Statable.{AreWritable, IsOpOn, IsWritableStart}
use Rattle.pp_format_write.proofs.Headers.{objects_tidy}
use Rattle.pp_format_write.proofs.Names.{named_at}
use Rattle.pp_format_write.proofs.Operations.{there, op_tidy, whole_numbers}
use Rattle.pp_format_write.proofs.Texts.{AreTidy, HasTidy, IsTidy, IsWhole}
use Rattle.pp_format_write.proofs.Texts as texts
use Rattle.pp_format_write.proofs.Words.{IsWord}
use Rattle.pp_cmd_focus.specs.Headers.{HasNamedStart, header_value, items_on, object_at}

style_is_word : (style : Style) → IsWord (style_word style)
style_is_word styles.Rules = refl
style_is_word styles.Boosted = refl
style_is_word styles.Optimistic = refl
style_is_word styles.Hardware = refl
style_is_word styles.Dependent = refl

whole_item : (catalog : Objects) → HasNames catalog → (p : Item Op) → IsOpOn catalog p.op → HasTidy IsWhole (op_members catalog p.id p.op no_members)
whole_item catalog names p h =
    op_tidy IsWhole catalog p.id p.op no_members (named_at catalog p.op.object names (there catalog p.op h)) (whole_numbers p.id (call_of p.op.act) (recorded_by p.op.act)) tt

one_whole : (catalog : Objects) (p : Item Op) (rest : List (Item Op)) → HasTidy IsWhole (op_members catalog p.id p.op no_members) → AreTidy IsWhole (items_of (map (item_value catalog) rest)) → (b : Bool)
    → AreTidy IsWhole (items_of (map (item_value catalog) (cond b (p ∷ rest) rest)))
one_whole catalog p rest h more true = ((refl, h), more)
one_whole catalog p rest h more false = more

items_whole : (catalog : Objects) → HasNames catalog → (o : ℕ) (items : List (Item Op)) → AreWritable catalog items → AreTidy IsWhole (items_of (map (item_value catalog) (items_on o items)))
items_whole catalog names o [] h = tt
items_whole catalog names o (p ∷ items) h = one_whole catalog p (items_on o items) (whole_item catalog names p h.0) (items_whole catalog names o items h.1) (place_of p.op == o)

with_start : (o : ℕ) (header : Header) (start : Option Start) → HasNames (object_at o header.catalog) → HasNames header.catalog → IsWritableStart header.catalog start → HasNamedStart start → IsTidy IsWhole (header_value o header start)
with_start o header None alone names h named = (refl, (refl, objects_tidy IsWhole (object_at o header.catalog) alone, (refl, tt, (refl, style_is_word header.style, tt))))
with_start o header (Some start) alone names h named =
    (refl, (refl, objects_tidy IsWhole (object_at o header.catalog) alone, (refl, tt, (refl, (refl, (refl, items_whole header.catalog names o start.ops h, (refl, named.bytes, tt))), (refl, style_is_word header.style, tt)))))

-- No number of the header's line is a fraction.
pub no_float : (o : ℕ) (header : Header) → HasNames (object_at o header.catalog) → HasNames header.catalog → IsWritableStart header.catalog header.start → HasNamedStart header.start → has_float (header_value o header header.start) ≡ false
no_float o header alone names h named = texts.no_float (header_value o header header.start) (with_start o header header.start alone names h named)
