pub mod ChipDamage
