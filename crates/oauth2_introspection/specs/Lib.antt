pub mod Introspection
