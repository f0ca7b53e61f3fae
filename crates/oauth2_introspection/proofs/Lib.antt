pub mod IntrospectionLaws
