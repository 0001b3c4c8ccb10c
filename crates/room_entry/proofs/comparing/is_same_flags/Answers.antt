use Rattle.std.proofs.Common.{◌≡◌, Bool, true, false, ◌&&◌, refl, sym, ap, ◌∙◌}
use Rattle.std.proofs.lemmas.Bool.{and_from, and_parts, false≢true}
use Rattle.room_entry.specs.{declared.flags.EntryFlags.EntryFlags, Letters.flags_text}
use Rattle.room_entry.proofs.{Alike.by_texts, Same.flags_equal}
use mathlib.Core.Bool.{beq}
use Rattle.room_entry.proofs.comparing.is_same_flags.Goals as goal

beq_equal : (s t : Bool) → beq s t ≡ true → s ≡ t
beq_equal true true h = refl
beq_equal true false h = absurd (false≢true h)
beq_equal false true h = absurd (false≢true h)
beq_equal false false h = refl

beq_itself : (t : Bool) → beq t t ≡ true
beq_itself true = refl
beq_itself false = refl

abbrev beq_all : EntryFlags → EntryFlags → Bool
beq_all x y =
    beq x.file_inherit y.file_inherit
    && (beq x.directory_inherit y.directory_inherit
    && (beq x.no_propagate_inherit y.no_propagate_inherit && (beq x.inherit_only y.inherit_only
    && (beq x.successful_access y.successful_access
    && (beq x.failed_access y.failed_access
    && (beq x.identifier_group y.identifier_group && beq x.inherited y.inherited))))))

all_equal : (x y : EntryFlags) → beq_all x y ≡ true → x ≡ y
all_equal x y h =
    let a = and_parts (beq x.file_inherit y.file_inherit) _ h in
    let b = and_parts (beq x.directory_inherit y.directory_inherit) _ a.1 in
    let n = and_parts (beq x.no_propagate_inherit y.no_propagate_inherit) _ b.1 in
    let o = and_parts (beq x.inherit_only y.inherit_only) _ n.1 in
    let s = and_parts (beq x.successful_access y.successful_access) _ o.1 in
    let f = and_parts (beq x.failed_access y.failed_access) _ s.1 in
    let g = and_parts (beq x.identifier_group y.identifier_group)
    (beq x.inherited y.inherited) f.1 in
    λ i. record {
      file_inherit = beq_equal _ _ a.0 i;
      directory_inherit = beq_equal _ _ b.0 i;
      no_propagate_inherit = beq_equal _ _ n.0 i;
      inherit_only = beq_equal _ _ o.0 i;
      successful_access = beq_equal _ _ s.0 i;
      failed_access = beq_equal _ _ f.0 i;
      identifier_group = beq_equal _ _ g.0 i;
      inherited = beq_equal _ _ g.1 i;
    }

all_itself : (x : EntryFlags) → beq_all x x ≡ true
all_itself x =
    and_from _ _ (beq_itself x.file_inherit)
    (and_from _ _ (beq_itself x.directory_inherit)
    (and_from _ _ (beq_itself x.no_propagate_inherit) (and_from _ _ (beq_itself x.inherit_only)
    (and_from _ _ (beq_itself x.successful_access)
    (and_from _ _ (beq_itself x.failed_access)
    (and_from _ _ (beq_itself x.identifier_group) (beq_itself x.inherited)))))))

pub returns : goal.returns
returns c =
    by_texts flags_text flags_equal c.args.flags c.args.other c.eq.result
    (λ h. all_equal c.args.flags c.args.other (sym c.eq.ensures ∙ h))
    (λ h. c.eq.ensures ∙ ap (beq_all c.args.flags) (sym h) ∙ all_itself c.args.flags)
